-- The effect of each operator, a file for each section of 2.4. Assumes nothing.
pub mod Vector
pub mod Frame
pub mod Call
pub mod Stack
pub mod Control
pub mod Test
pub mod Arith
