pub mod Header  -- a subtable's format and header
pub mod Part  -- tables at offsets
pub mod Spans  -- ascending lists of spans
pub mod Coverage  -- the Coverage table
pub mod ClassDef  -- the ClassDef table
pub mod Anchor  -- the Anchor table
pub mod MarkArray  -- the MarkArray table
pub mod AnchorRows  -- rows of anchors, one for each mark class
pub mod code  -- of code: what its values stand for
