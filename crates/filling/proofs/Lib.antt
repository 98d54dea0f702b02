-- The laws, lowest first. Assumes nothing.
pub mod Copying
pub mod Surveying
pub mod Placing
pub mod Filled
