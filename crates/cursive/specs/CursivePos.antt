-- The CursivePos subtable, format 1 (OpenType, GPOS): uint16 posFormat, Offset16 coverageOffset, uint16 entryExitCount,
-- EntryExitRecord entryExitRecords[entryExitCount], a record for each covered glyph. Assumes nothing.
--   EntryExitRecord: Offset16 entryAnchorOffset, Offset16 exitAnchorOffset, from the subtable's start
use Rattle.std.specs.Prelude.{None, Option, Some}
use Rattle.std.specs.Prelude.{Bool, true, ◌&&◌, List, [], ◌∷◌, ℕ, ◌+◌, ◌*◌, eqb, leb, length}
use Rattle.ints.specs.BigEndian.{u16_at}
use Rattle.slots.specs.Slot.{Slot}
use Rattle.slots.specs.Line.{slot}
use Rattle.tables.specs.Anchor.{Point, anchor_of}
use Rattle.tables.specs.Coverage.{coverage_at, coverage_good_at}
use Rattle.tables.specs.Header.{coverage_offset, most_bytes, pos_format}
use Rattle.tables.specs.Part.{child_of}
use Rattle.answers.specs.Said.{Range, unsafe_to_break, unsafe_to_concat, Said, applied, declined}
use Rattle.answers.specs.declared.Neighbour.{Neighbour}
use Rattle.answers.specs.declared.Neighbour.TheVariants.{Named, Missing}

-- the header's third field: how many covered glyphs have a record
abbrev pub entry_exit_count : List ℕ → ℕ
entry_exit_count t = u16_at t 4

-- the place of the records
abbrev pub entry_exit_records : ℕ
entry_exit_records = 6

-- the bytes of the header
abbrev pub header_bytes : ℕ
header_bytes = 6

-- what refusal 6 asks of the subtable: not too long, header whole, format known, coverage good
abbrev pub cursive_good : List ℕ → Bool
cursive_good t =
    leb (length t) most_bytes
    && (leb header_bytes (length t) && (eqb (pos_format t) 1 && coverage_good_at t (coverage_offset t)))

-- the coverage index of a glyph
abbrev pub index_of : List ℕ → ℕ → Option ℕ
index_of t g = coverage_at t (coverage_offset t) g

-- an anchor of record k: side 0 is the record's first offset, side 1 its second; the records are one array of offsets
abbrev pub record_anchor : List ℕ → ℕ → ℕ → Option Point
record_anchor t k side = anchor_of (child_of t entry_exit_records (2 * entry_exit_count t) (2 * k + side))

-- the entry anchor of a coverage index: by entryAnchorOffset, the record's first
abbrev pub entry_of : List ℕ → ℕ → Option Point
entry_of t k = record_anchor t k 0

-- the exit anchor of a coverage index: by exitAnchorOffset, the record's second
abbrev pub exit_of : List ℕ → ℕ → Option Point
exit_of t k = record_anchor t k 1

-- what is to be done: nothing, with the hazard to report, if any; or the previous slot, by its exit anchor, and this
-- slot, by its entry anchor, are to be joined
pub data Plan : Type 0 where
  stop : (hazards : List Range) → Plan
  join : (previous : ℕ) (exit entry : Point) → Plan

-- the previous slot i, once it is known to be covered: without an exit anchor the two are not joined, but another glyph
-- in its place might have one
abbrev pub after_exit : ℕ → ℕ → Point → Option Point → Plan
after_exit idx i entry (Some exit) = join i exit entry
after_exit idx i entry None = stop (unsafe_to_concat i (idx + 1) ∷ [])

-- an uncovered previous slot gives no hazard
abbrev pub after_previous : List ℕ → ℕ → ℕ → Point → Option ℕ → Plan
after_previous t idx i entry (Some k) = after_exit idx i entry (exit_of t k)
after_previous t idx i entry None = stop []

-- the previous slot that the caller names; or none, with the bound of its search: another glyph from there on might
-- have been joined
abbrev pub after_neighbour : List ℕ → List Slot → ℕ → Neighbour → Point → Plan
after_neighbour t ss idx (Named i) entry = after_previous t idx i entry (index_of t (slot ss i).glyph)
after_neighbour t ss idx (Missing f) entry = stop (unsafe_to_concat f (idx + 1) ∷ [])

-- without an entry anchor here the previous slot isn't looked at
abbrev pub after_entry : List ℕ → List Slot → ℕ → Neighbour → Option Point → Plan
after_entry t ss idx n (Some entry) = after_neighbour t ss idx n entry
after_entry t ss idx n None = stop []

-- nor where this glyph is uncovered
abbrev pub after_covered : List ℕ → List Slot → ℕ → Neighbour → Option ℕ → Plan
after_covered t ss idx n (Some k) = after_entry t ss idx n (entry_of t k)
after_covered t ss idx n None = stop []

-- the plan for slot idx, by its coverage, its entry anchor, the previous slot, its coverage, its exit anchor, in order
unfoldable pub plan_of : List ℕ → List Slot → ℕ → Neighbour → Plan
plan_of t ss idx n = after_covered t ss idx n (index_of t (slot ss idx).glyph)

-- what is said of a plan: joined, the text is unsafe to break from the previous slot to this one
abbrev pub plan_said : ℕ → Plan → Said
plan_said idx (stop hazards) = declined hazards
plan_said idx (join i exit entry) = applied (idx + 1) (unsafe_to_break i (idx + 1) ∷ []) true
