-- The laws, lowest first. Assumes nothing.
pub mod EveryBody
pub mod OneBody
