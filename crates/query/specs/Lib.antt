pub mod Qry
pub mod Inside
