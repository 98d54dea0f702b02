-- The laws, lowest first. Assumes nothing.
pub mod Booking
pub mod Reprinting
