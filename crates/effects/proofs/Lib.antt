-- The laws, lowest first. Assumes nothing.
pub mod Working
pub mod Acting
pub mod Executing
