-- The laws, lowest first. Assumes nothing.
pub mod WordSizes
pub mod Judging
