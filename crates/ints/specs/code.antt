pub mod Signed  -- a signed number in code
pub mod Saturating  -- a sum in progress
pub mod Scale  -- the scales that code works with
