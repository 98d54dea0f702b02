-- The laws. Assumes nothing.
pub mod Admitting
