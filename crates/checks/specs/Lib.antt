pub mod Ranges  -- refusal 4: the ranges of a slot's fields
pub mod Arguments  -- the tests for which calls refuse, in order
pub mod Neighbours  -- refusal 5: index and neighbours
pub mod code  -- what code's values stand for
