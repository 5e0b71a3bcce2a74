pub mod Kinds  -- the lookup types
pub mod Neighbours  -- neighbours by the seen bits
pub mod Subtables  -- several subtables, end to end
pub mod Refusals  -- the tests for which a run is refused, in order
pub mod code  -- of code: what its values stand for, and what it leaves
