pub mod Starting  -- starting
pub mod Finishing  -- finishing
pub mod SinglePos  -- single adjustment
pub mod PairPos  -- pair adjustment
pub mod CursivePos  -- cursive attachment
pub mod MarkPos  -- mark attachment
pub mod Moving  -- moving to slots with a cluster, and back
pub mod Running  -- running a lookup
