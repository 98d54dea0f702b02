-- The laws, lowest first, and the theorems that cite them. Assumes nothing.
pub mod Cond
pub mod Divisor
pub mod Signs
pub mod Machine
pub mod SignedWord
pub mod Rounding
pub mod Limits
pub mod Reduced
pub mod Theorems
