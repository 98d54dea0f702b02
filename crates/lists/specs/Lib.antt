pub mod Written
pub mod Reading
pub mod Promise
pub mod Inner
pub mod Cases
