pub mod Covered  -- the next covered place
pub mod Calls  -- one single call
pub mod Run  -- where a run stands, and one turn of it
pub mod Beginning  -- where a run begins, or why it doesn't
