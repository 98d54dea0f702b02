-- The laws. Assumes nothing.
pub mod Reading
