pub mod Kind  -- the kinds of a call
pub mod Recorded  -- what is recorded of a call
