pub mod Penalties
pub mod Nearest
pub mod Steps
pub mod Worked
