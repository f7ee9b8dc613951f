pub mod LineLaws
pub mod RoundLaws
pub mod TurnLaws
pub mod StopLaws
