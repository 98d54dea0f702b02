-- The laws. Assumes nothing.
pub mod Counting
pub mod Marking
