pub mod Records  -- the number of each kind, the records of a call's hazards, and the list after records went into it
