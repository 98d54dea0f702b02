pub mod Turns
pub mod Spans
