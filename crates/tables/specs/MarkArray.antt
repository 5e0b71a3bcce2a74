-- The MarkArray table (OpenType, GPOS): uint16 markCount, markRecords[markCount] of uint16 markClass, Offset16
-- markAnchorOffset from the array's start. Assumes nothing.
use Rattle.std.specs.Prelude.{None, Option, Some}
use Rattle.std.specs.Prelude.{Bool, ◌&&◌, List, ℕ, ◌+◌, ◌*◌, leb, ltb, drop, length, if◌then◌else◌}
use Rattle.ints.specs.BigEndian.{u16_at}
use Rattle.tables.specs.Anchor.{Point, anchor_of}

-- a mark: its class and its anchor
pub record MarkAnchor : Type 0 where
  pub class : ℕ
  pub anchor : Point

-- how many marks
abbrev pub mark_count : List ℕ → ℕ
mark_count t = u16_at t 0

-- where the records start, right after the count
abbrev pub mark_records : ℕ
mark_records = 2

-- the bytes of a record: two uint16
abbrev pub mark_record_size : ℕ
mark_record_size = 4

-- where mark record k is
abbrev pub mark_record : ℕ → ℕ
mark_record k = mark_records + mark_record_size * k

-- its class, by which a base, a component or an earlier mark has an anchor for it
abbrev pub mark_class : List ℕ → ℕ → ℕ
mark_class t k = u16_at t (mark_record k)

-- where its own anchor is
abbrev pub mark_anchor_offset : List ℕ → ℕ → ℕ
mark_anchor_offset t k = u16_at t (mark_record k + 2)

-- mark record k is there: the array has a count, k is not past it, and the record is not cut
abbrev pub record_there : List ℕ → ℕ → Bool
record_there t k =
    leb mark_records (length t) && (ltb k (mark_count t) && leb (mark_record k + mark_record_size) (length t))

-- the mark of a class with this anchor, if there is one
abbrev pub with_class : ℕ → Option Point → Option MarkAnchor
with_class c (Some a) = Some (record { class = c; anchor = a })
with_class c None = None

-- mark k of the array t. Its anchor offset isn't nullable, unlike those of base arrays: 0 is read as given, and leads
-- to the array's own start.
abbrev pub mark_of : List ℕ → ℕ → Option MarkAnchor
mark_of t k =
    if record_there t k then with_class (mark_class t k) (anchor_of (drop (mark_anchor_offset t k) t)) else None
