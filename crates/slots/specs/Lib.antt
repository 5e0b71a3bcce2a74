pub mod Axis  -- axes and directions
pub mod Slot  -- the slot and its bytes
pub mod Line  -- the line as a list of slots
pub mod Fields  -- the fields of a slot
pub mod Numbered  -- slots whose cluster is their number
pub mod Parent  -- a slot's parent
pub mod Checks  -- refusal 1
pub mod code  -- what code's values stand for
pub mod theorems  -- what only theorems speak of
