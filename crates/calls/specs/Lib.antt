pub mod Made  -- what a call, made by its numbers, may answer
