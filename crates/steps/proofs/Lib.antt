-- The laws of steps.
pub mod Laws
