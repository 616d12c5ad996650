-- The laws of the descent.
pub mod KindMasks
pub mod PartSteps
pub mod Facts
pub mod Dues
