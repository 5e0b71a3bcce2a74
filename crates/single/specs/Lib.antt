pub mod SinglePos  -- the subtable, and adjusting by it
pub mod code  -- of code: its bounds
