pub mod BodyTurns
