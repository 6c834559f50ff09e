pub mod Sum
pub mod CountFirst
