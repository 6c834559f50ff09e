pub mod Sums
pub mod Preferring
pub mod Fairness
pub mod Nearest
pub mod Weights
pub mod Signs
pub mod Coming
