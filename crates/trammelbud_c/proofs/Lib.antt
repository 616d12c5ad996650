-- That the exports promise what the library does.
pub mod Exported
