pub mod Cells
pub mod SlotLaws
pub mod LineLaws
pub mod ShapeLaws
pub mod FieldLaws
pub mod ParentLaws
pub mod ChainLaws
pub mod Examples
