-- The laws. Assumes nothing.
pub mod Leading
