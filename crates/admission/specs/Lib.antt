-- The definitions that the contracts cite beside those of `machine`. Assumes nothing.
pub mod Judged
