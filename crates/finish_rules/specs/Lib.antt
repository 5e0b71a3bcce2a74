pub mod Finish  -- finishing, as the source does it
pub mod theorems  -- what only theorems speak of
