pub mod Reckoning
pub mod Spelling
pub mod Walks
