-- The definitions that the contracts cite beside those of `machine` and `operands`. Assumes nothing.
pub mod Reckoning
