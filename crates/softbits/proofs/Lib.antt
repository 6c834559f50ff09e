-- The lemmas on soft bits; what antt computes stands in Table.
pub mod Bits
pub mod Values
pub mod Runs
pub mod Table
pub mod Theorems
pub mod Ranges
pub mod Leasts
pub mod Nearest
pub mod Signs
