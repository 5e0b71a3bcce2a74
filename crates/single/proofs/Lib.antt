pub mod SinglePosLaws
pub mod Examples
pub mod SaidLaws
