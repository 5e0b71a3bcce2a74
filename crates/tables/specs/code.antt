pub mod Near  -- how far from 0 a coordinate can be
pub mod Meant  -- what code's values stand for, and the bounds that code leans on
