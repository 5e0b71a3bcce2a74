pub mod CursivePos  -- the subtable, and which slots are to be joined
pub mod Attachment  -- joining two slots
pub mod code  -- code's values and its bounds
