-- The laws, lowest first. Assumes nothing.
pub mod Reckoned
pub mod Indexing
