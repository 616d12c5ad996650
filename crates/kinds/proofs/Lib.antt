pub mod Edges
pub mod KindMasks
