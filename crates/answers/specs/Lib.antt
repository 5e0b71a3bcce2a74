pub mod Said  -- what a call says, and the table of refusals
pub mod Outcome  -- the answer and the line that a call leaves
pub mod code  -- what a core leaves
pub mod theorems  -- what only theorems speak of
