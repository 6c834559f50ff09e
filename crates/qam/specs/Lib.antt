pub mod Levels
pub mod Cells
