pub mod SpanTurns
