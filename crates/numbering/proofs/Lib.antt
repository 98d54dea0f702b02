-- The laws. Assumes nothing.
pub mod Numbers
