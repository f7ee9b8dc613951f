pub mod Round
pub mod TimeLaws
pub mod Residence
pub mod ResidentLaws
pub mod TurnLaws
pub mod StateRowLaws
mod Examples
