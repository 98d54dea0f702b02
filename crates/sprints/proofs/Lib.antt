-- The laws, lowest first. Assumes nothing.
pub mod Flatness
pub mod Ahead
pub mod Level
pub mod Swiftly
pub mod Rows
