pub mod PairPosLaws
pub mod PairSetLaws
pub mod Meaning
pub mod Examples
pub mod SaidLaws
