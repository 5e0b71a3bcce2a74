pub mod Format  -- ValueFormat and ValueRecord
pub mod FieldEffect  -- what a field does in a direction
pub mod Value  -- applying a record
pub mod code  -- what code's values stand for
