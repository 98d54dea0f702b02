-- The definitions, lowest first, and worked values of them. Assumes nothing.
pub mod Each
pub mod Gcd
pub mod Whole
pub mod Fraction
pub mod Arith
pub mod Cases
