pub mod Storable  -- what a slot's bytes can hold
pub mod Clusters  -- slots with other clusters
pub mod Identity  -- what a slot is, apart from where it is
