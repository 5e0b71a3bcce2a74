pub mod Endless  -- a walk that never ends
