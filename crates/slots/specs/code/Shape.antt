-- Lines in code: bytes that have a shape, and slots inside them. Assumes nothing.
use Rattle.std.specs.Prelude.{None, Option, Some}
use Rattle.std.specs.Prelude.{List, ◌≡◌, ℕ, ◌*◌, ◌<◌, ◌≤◌, length, if◌then◌else◌}
use Rattle.slots.specs.Checks.{bad_line}
use Rattle.slots.specs.Line.{count, shape_with}
use Rattle.slots.specs.Slot.{slot_size}
use Rattle.slots.specs.declared.shape.Shape.{Shape}

-- the shape of a part of n slots
abbrev pub part_shape : Shape → ℕ → Shape
part_shape w n = shape_with w.size n

-- bytes that have the shape: slots of at least 24 bytes, and exactly their bytes; `few`, which these two imply, bounds
-- the number of slots by the length
pub record Fits (w : Shape) (l : List ℕ) : Type 0 where
  pub wide : slot_size ≤ w.size
  pub whole : length l ≡ w.count * w.size
  pub few : w.count * slot_size ≤ length l

-- and slot i is one of them
pub record Inside (w : Shape) (l : List ℕ) (i : ℕ) : Type 0 where
  pub fits : Fits w l
  pub below : i < w.count

-- how a line is cut into slots of z bytes: how many there are
abbrev pub cut_of : ℕ → List ℕ → Option ℕ
cut_of z l = if bad_line z l then None else Some (count z l)
