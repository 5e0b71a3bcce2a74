pub mod Limits  -- powers of 2 by name
pub mod BigEndian  -- unsigned numbers in bytes
pub mod Signed  -- signed numbers in bytes and bits
pub mod Saturating  -- sums brought to 32 bits
pub mod Scale  -- the scale
pub mod Sums  -- sums step by step
pub mod Tally  -- how many numbers pass a test, and the nearest
pub mod code  -- what code's numbers stand for
pub mod theorems  -- what only theorems speak of
