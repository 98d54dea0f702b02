-- The work, then the theorem. Assumes nothing.
pub mod Corrected
pub mod Theorems
