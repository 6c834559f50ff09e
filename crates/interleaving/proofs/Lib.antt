pub mod Bounds
pub mod Bijective
pub mod Spots
