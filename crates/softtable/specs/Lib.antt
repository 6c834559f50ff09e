-- What the table has. Assumes nothing.
pub mod Lines
pub mod Spans
