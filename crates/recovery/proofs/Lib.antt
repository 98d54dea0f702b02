-- The laws. Assumes nothing.
pub mod Recovering
