pub mod Chains  -- chains for a distance, attached slots
pub mod Reversal  -- the reversal of an old chain
