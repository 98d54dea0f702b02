-- The laws, lowest first. Assumes nothing.
pub mod Growing
pub mod SameBytes
pub mod Ending
pub mod Walking
pub mod Paging
