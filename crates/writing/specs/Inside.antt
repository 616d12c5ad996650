-- What functions of the library ask of each other: no caller has to believe it.
pub mod Put
pub mod Wrote
pub mod Made
