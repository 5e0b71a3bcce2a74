pub mod Steps  -- steps of a walk
pub mod Scale  -- rounding as a reader would say it
