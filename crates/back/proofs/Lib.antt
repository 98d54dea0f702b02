-- The laws. Assumes nothing.
pub mod Answering
