-- The laws. Assumes nothing.
pub mod Showing
