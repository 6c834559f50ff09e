pub mod Each
pub mod Axes
pub mod Labels
