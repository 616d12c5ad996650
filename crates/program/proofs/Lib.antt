pub mod Loop
pub mod Known
