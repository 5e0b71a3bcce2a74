pub mod PairPos  -- the subtable
pub mod PairSet  -- the pair set, and the probe
pub mod Plan  -- which record a pair has
pub mod Adjustment  -- applying it
pub mod code  -- of code: what its values stand for
pub mod theorems  -- of theorems: what they say the probe means
