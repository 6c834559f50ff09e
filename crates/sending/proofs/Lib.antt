pub mod Numbers
pub mod Sizes
pub mod Labellings
pub mod Encodings
pub mod Sendings
