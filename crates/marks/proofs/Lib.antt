pub mod AttachmentLaws
pub mod Examples
pub mod StackingExamples
pub mod SaidLaws
