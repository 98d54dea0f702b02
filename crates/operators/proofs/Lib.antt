-- The laws. Assumes nothing.
pub mod Framing
pub mod Testing
