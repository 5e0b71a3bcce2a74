pub mod Bounds  -- the bounds that code leans on
pub mod Meant  -- what code's values stand for
