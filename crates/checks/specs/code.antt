pub mod Ranges  -- the small fields of slots as one number
pub mod Checked  -- what the checks that calls share find
