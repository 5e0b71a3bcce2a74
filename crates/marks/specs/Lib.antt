pub mod Anchors  -- the anchors of a mark and its base
pub mod Plan  -- what is to be done for a mark
pub mod Attachment  -- attaching it
pub mod code  -- code's values and its bounds
