pub mod Clusters  -- no call looks at a cluster or writes one
pub mod Next  -- where a call that is applied says to go on
pub mod Running  -- that a run ends, and a run that is one single call
