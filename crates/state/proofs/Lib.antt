-- The laws, lowest first. Assumes nothing.
pub mod Coding
pub mod Parts
pub mod Ending
pub mod Cutting
pub mod Trying
pub mod Stacking
pub mod Framing
