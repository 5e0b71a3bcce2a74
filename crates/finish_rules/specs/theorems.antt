pub mod Demand3  -- demand 3: where glyphs are drawn afterwards
