-- The laws. Assumes nothing.
pub mod Rowing
