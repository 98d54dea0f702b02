-- The tokens of a list, and of a token table. Assumes nothing.
pub mod Tokens
pub mod Listing
pub mod Judged
