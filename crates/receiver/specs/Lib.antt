pub mod Frames
pub mod Rows
pub mod Stores
pub mod Calls
pub mod Checks
pub mod SoftCells
