pub mod Entries
pub mod Distances
pub mod Decided
pub mod Unharmed
pub mod Theorems
