pub mod Effect  -- what a core leaves
pub mod Neighbours  -- where a named neighbour is
