-- The meanings of the three demappers, and their steps. Assumes nothing.
pub mod Demappings
pub mod Steps
