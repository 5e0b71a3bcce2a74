pub mod ChainsLaws
pub mod ReversalLaws
pub mod Sound
pub mod Examples
