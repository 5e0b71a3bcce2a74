pub mod DigitLaws
pub mod TextLaws
pub mod StdLaws
pub mod Examples
