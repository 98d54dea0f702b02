-- The laws, lowest first. Assumes nothing.
pub mod Stores
pub mod WordLists
pub mod SlotLists
pub mod Moves
pub mod Runs
