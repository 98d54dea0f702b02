-- The laws, lowest first. Assumes nothing.
pub mod Calling
pub mod Holding
pub mod Riding
