-- The definitions of soft bits and of demappings, and what is proved of them. Assumes nothing.
pub mod SoftBits
pub mod Demapping
pub mod Theorems
pub mod Examples
