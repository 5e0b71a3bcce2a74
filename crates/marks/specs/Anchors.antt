-- The anchors by which a mark attaches: its own, from the MarkArray, and the base's, from a row of anchor offsets with
-- a column for each class of marks (OpenType, GPOS). The base is whatever the mark goes on: a base, a ligature or an
-- earlier mark. Assumes nothing.
--   BaseArray: uint16 baseCount, then a row for each base; a Mark2Array likewise, for each earlier mark
--   LigatureArray: uint16 ligatureCount, Offset16 ligatureAttachOffsets[ligatureCount]
--   LigatureAttach: uint16 componentCount, then a row for each component
use Rattle.std.specs.Prelude.{None, Option, Some, List, ℕ, eqb, if◌then◌else◌}
use Rattle.ints.specs.BigEndian.{u16_at}
use Rattle.slots.specs.Slot.{Slot}
use Rattle.tables.specs.Anchor.{Point}
use Rattle.tables.specs.AnchorRows.{anchor_in, rows_of}
use Rattle.tables.specs.MarkArray.{MarkAnchor, mark_of}
use Rattle.tables.specs.Part.{child_of, table_at}
use Rattle.targets.specs.Component.{component_index}
use Rattle.targets.specs.MarkPos.{base_array_offset, mark_array_offset, mark_class_count}
use Rattle.targets.specs.declared.mark_pos.Target.{Target}
use Rattle.targets.specs.declared.mark_pos.Target.TheVariants.{Base, Ligature}

-- mark m of the MarkArray
abbrev pub mark_at : List ℕ → ℕ → Option MarkAnchor
mark_at t m = mark_of (table_at t (mark_array_offset t)) m

-- how many ligatures a LigatureArray has
abbrev pub ligature_count : List ℕ → ℕ
ligature_count array = u16_at array 0

-- where its offsets are
abbrev pub ligature_attach_offsets : ℕ
ligature_attach_offsets = 2

-- the LigatureAttach of ligature k: nothing where its offset is 0 or isn't there
abbrev pub ligature_attach : List ℕ → ℕ → List ℕ
ligature_attach array k = child_of array ligature_attach_offsets (ligature_count array) k

-- the table that has the anchor rows of base k: the BaseArray itself, or the LigatureAttach of ligature k
abbrev pub row_table : Target → List ℕ → ℕ → List ℕ
row_table Base t k = table_at t (base_array_offset t)
row_table Ligature t k = ligature_attach (table_at t (base_array_offset t)) k

-- the row of base k; of a ligature with n components, the row of the component, which one without components lacks
abbrev pub row_for : Target → ℕ → ℕ → Slot → Slot → Option ℕ
row_for Base k n mark base = Some k
row_for Ligature k n mark base = if eqb n 0 then None else Some (component_index n mark base)

-- the anchors found: the base's and the mark's; or one is missing; or a ligature has no component
pub data Anchors : Type 0 where
  both : (base mark : Point) → Anchors
  missing : Anchors
  empty : Anchors

-- the mark's anchor is there: so is the base's, or not
abbrev pub after_base : Point → Option Point → Anchors
after_base mark (Some base) = both base mark
after_base mark None = missing

-- the mark's anchor, and the base's in a row for the mark's class
abbrev pub after_mark : List ℕ → ℕ → ℕ → ℕ → Option MarkAnchor → Anchors
after_mark rows n columns row (Some m) = after_base m.anchor (anchor_in rows n columns row m.class)
after_mark rows n columns row None = missing

-- the row is known; a ligature without components is reported before the mark is looked at
abbrev pub after_row : List ℕ → ℕ → ℕ → Option MarkAnchor → Option ℕ → Anchors
after_row rows n columns mark (Some row) = after_mark rows n columns row mark
after_row rows n columns mark None = empty

-- n rows, all there; rows absent: missing
abbrev pub after_rows : Target → List ℕ → ℕ → ℕ → Slot → Slot → Option ℕ → Anchors
after_rows target t k m mark base (Some n) =
    after_row (row_table target t k) n (mark_class_count t) (mark_at t m) (row_for target k n mark base)
after_rows target t k m mark base None = missing

-- the anchors by which mark m, in the slot `mark`, attaches to base k, in the slot `base`: the rows must be whole
unfoldable pub anchors_for : Target → List ℕ → ℕ → ℕ → Slot → Slot → Anchors
anchors_for target t k m mark base =
    after_rows target t k m mark base (rows_of (row_table target t k) (mark_class_count t))
