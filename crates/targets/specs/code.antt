pub mod Meant  -- what code's values stand for, and the bounds that code leans on
