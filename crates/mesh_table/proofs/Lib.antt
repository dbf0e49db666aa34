pub mod Numbers
pub mod TurnLaws
