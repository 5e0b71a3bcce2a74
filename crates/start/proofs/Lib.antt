pub mod ClearLaws
pub mod TurnLaws
pub mod Examples
