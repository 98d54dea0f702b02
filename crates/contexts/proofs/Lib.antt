-- The laws, lowest first. Assumes nothing.
pub mod Entering
