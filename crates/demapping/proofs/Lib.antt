-- The lemmas on the three demappers.
pub mod Exacts
pub mod Hards
pub mod Signs
