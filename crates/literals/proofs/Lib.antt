-- The laws, lowest first. Assumes nothing.
pub mod Standing
pub mod Finding
pub mod Passing
