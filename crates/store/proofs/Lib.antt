-- The laws, lowest first. Assumes nothing.
pub mod Charging
pub mod Cardinals
