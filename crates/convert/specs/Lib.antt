-- The shredder and the rebuilder over files.
pub mod Convert
