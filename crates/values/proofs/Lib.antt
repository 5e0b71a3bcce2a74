pub mod FormatLaws
pub mod ValueLaws
pub mod Examples
