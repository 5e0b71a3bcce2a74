-- Which component of a ligature a mark attaches to. Assumes nothing.
use Rattle.std.specs.Prelude.{not, ◌&&◌, ℕ, ◌-◌, min, eqb, ltb, if◌then◌else◌}
use Rattle.slots.specs.Slot.{Slot}

-- The component of a ligature with n of them that a mark attaches to, counted from 0: its own, at most
-- the last, where the two have the same id, other than 0, and its component isn't 0; else the last.
abbrev pub component_index : ℕ → Slot → Slot → ℕ
component_index n mark lig =
    if not (eqb lig.ligature_id 0) && (eqb lig.ligature_id mark.ligature_id && ltb 0 mark.component)
    then min mark.component n - 1
    else n - 1
