pub mod CursivePosLaws
pub mod AttachmentLaws
pub mod Examples
pub mod SaidLaws
