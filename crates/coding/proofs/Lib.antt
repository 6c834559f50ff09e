pub mod Bounds
pub mod Patterns
pub mod Sent
