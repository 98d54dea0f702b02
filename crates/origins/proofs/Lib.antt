pub mod ByOrigin
