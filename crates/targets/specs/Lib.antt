pub mod MarkPos  -- the subtables' header and coverages
pub mod Component  -- which component a mark attaches to
pub mod Search  -- what a mark attaches to
pub mod Together  -- which earlier mark a mark may be stacked on
pub mod Place  -- the slot that a mark goes on
pub mod Walk  -- the base's walk across the line
pub mod code  -- code's values and its bounds
pub mod theorems  -- what theorems say, and no contract does
