pub mod Codes  -- the entries in the table of 32
pub mod Format  -- a record's bytes
