-- The laws. Assumes nothing.
pub mod Pacing
