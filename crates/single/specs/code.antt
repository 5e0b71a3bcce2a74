pub mod Bounds  -- the bounds that code leans on
