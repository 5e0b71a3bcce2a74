pub mod MarkPosLaws
pub mod SearchLaws
pub mod PlaceLaws
pub mod WalkLaws
pub mod Examples
