pub mod RecordedLaws
