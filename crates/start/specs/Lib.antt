pub mod Start  -- starting
