pub mod PlainReading  -- the plain reading of a pair set, which the probe finds by halves
