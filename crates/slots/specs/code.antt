pub mod Shape  -- bytes that have a shape
pub mod Fields  -- where in a slot's bytes a field is
