pub mod SaidLaws
pub mod OutcomeLaws
pub mod TestLaws
pub mod Examples
