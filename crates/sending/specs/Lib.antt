pub mod Links
pub mod Sizes
pub mod Cells
pub mod Sends
pub mod Labelling
pub mod PlannedOnce
