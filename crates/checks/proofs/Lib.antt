pub mod RangeLaws
pub mod SearchLaws
pub mod TestLaws
pub mod CheckLaws
pub mod Examples
