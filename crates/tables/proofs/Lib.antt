pub mod SpansLaws
pub mod HeaderLaws
pub mod CoverageLaws
pub mod AnchorRowsLaws
pub mod Examples
