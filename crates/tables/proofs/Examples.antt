-- Worked values: the definitions at tables that are written out, after the examples of the OpenType chapters and by hand. They compute. Assumes
-- nothing.
use Rattle.std.specs.Prelude.{None, Some}
use mathlib.Core.Path.{◌≡◌, refl}
use mathlib.Core.Bool.{true, false}
use mathlib.Core.List.{List, [], ◌∷◌, map}
use Prim.Native.Nat.{ℕ}
use lib.IntN.{ℤ, pos, negsuc}
use lib.ListN.{take}
use Rattle.ints.proofs.Examples.{words}
use Rattle.ints.specs.BigEndian.{nat_at}
use Rattle.ints.specs.Signed.{int_at, signed}
use Rattle.tables.specs.Part.{child_of}
use Rattle.tables.specs.Spans.{ascends, first_holding, span_at, spans_from}
use Rattle.tables.specs.Coverage.{coverage_at, coverage_good, coverage_good_at, coverage_index}
use Rattle.tables.specs.ClassDef.{class_at, class_good, class_good_at, class_of}
use Rattle.tables.specs.Anchor.{Point, anchor_of}
use Rattle.tables.specs.MarkArray.{MarkAnchor, mark_of}
use Rattle.tables.specs.AnchorRows.{anchor_in, rows_of}

abbrev point : ℤ → ℤ → Point
point x y = record { x = x; y = y }

abbrev mark : ℕ → Point → MarkAnchor
mark c a = record { class = c; anchor = a }

-- coverage: the glyphs 56, 59, 65, 66, 74; the ranges 78 to 87 from index 0 on and 100 to 102 from index 10 on
abbrev glyphs : List ℕ
glyphs = words (1 ∷ 5 ∷ 56 ∷ 59 ∷ 65 ∷ 66 ∷ 74 ∷ [])

abbrev ranges : List ℕ
ranges = words (2 ∷ 2 ∷ 78 ∷ 87 ∷ 0 ∷ 100 ∷ 102 ∷ 10 ∷ [])

-- class lists: glyphs 50 to 53 of classes 0, 1, 0, 2; the ranges 48 to 49 of class 2, 64 to 65 of class 3, 210 to 211 of class 1
abbrev array : List ℕ
array = words (1 ∷ 50 ∷ 4 ∷ 0 ∷ 1 ∷ 0 ∷ 2 ∷ [])

abbrev classes : List ℕ
classes = words (2 ∷ 3 ∷ 48 ∷ 49 ∷ 2 ∷ 64 ∷ 65 ∷ 3 ∷ 210 ∷ 211 ∷ 1 ∷ [])

-- anchors of the formats 1, 2 and 3
abbrev anchors : List (List ℕ)
anchors = words (1 ∷ 189 ∷ 65433 ∷ []) ∷ words (2 ∷ 322 ∷ 900 ∷ 13 ∷ []) ∷ words (3 ∷ 279 ∷ 1301 ∷ 10 ∷ 20 ∷ []) ∷ []

-- one mark, of class 3, with its anchor at byte 6; the same with a zero offset, which leads to the array's own start
abbrev marks : List ℕ
marks = words (1 ∷ 3 ∷ 6 ∷ 1 ∷ 10 ∷ 20 ∷ [])

abbrev zero_mark : List ℕ
zero_mark = words (1 ∷ 3 ∷ 0 ∷ [])

-- one row of two columns: an anchor at byte 6, and a zero offset
abbrev rows : List ℕ
rows = words (1 ∷ 6 ∷ 0 ∷ 1 ∷ 7 ∷ 8 ∷ [])

pub record Worked : Type 0 where
  -- coverage 1: the first glyph, one in between, the last, and one that isn't there
  pub coverage_1 : map (coverage_index glyphs) (56 ∷ 66 ∷ 74 ∷ 57 ∷ []) ≡ (Some 0 ∷ Some 3 ∷ Some 4 ∷ None ∷ [])
  -- coverage 2: both ends of a range, a glyph past it, and the index of the second range
  pub coverage_2 : map (coverage_index ranges) (78 ∷ 87 ∷ 88 ∷ 101 ∷ []) ≡ (Some 0 ∷ Some 9 ∷ None ∷ Some 11 ∷ [])
  -- its index is a plain sum, not cut at 16 bits
  pub coverage_sum : coverage_index (words (2 ∷ 1 ∷ 10 ∷ 20 ∷ 65535 ∷ [])) 20 ≡ Some 65545
  -- the check: both are good; two equal glyphs, a range that starts in the one before, one that ends before it starts, a cut list and an unknown format are not
  pub coverage_check : map coverage_good (glyphs ∷ ranges ∷ words (1 ∷ 2 ∷ 9 ∷ 9 ∷ []) ∷ words (2 ∷ 2 ∷ 5 ∷ 9 ∷ 0 ∷ 9 ∷ 12 ∷ 5 ∷ [])
      ∷ words (2 ∷ 1 ∷ 9 ∷ 5 ∷ 0 ∷ []) ∷ take 13 glyphs ∷ words (3 ∷ 0 ∷ []) ∷ [])
      ≡ (true ∷ true ∷ false ∷ false ∷ false ∷ false ∷ false ∷ [])
  -- class list 1: before the array, in it, past it
  pub class_1 : map (class_of array) (49 ∷ 50 ∷ 51 ∷ 53 ∷ 54 ∷ []) ≡ (0 ∷ 0 ∷ 1 ∷ 2 ∷ 0 ∷ [])
  -- class list 2: both ends of a range, a glyph past it, and the last range
  pub class_2 : map (class_of classes) (48 ∷ 49 ∷ 50 ∷ 65 ∷ 211 ∷ []) ≡ (2 ∷ 2 ∷ 0 ∷ 3 ∷ 1 ∷ [])
  -- the check: both are good, cut ones are not
  pub class_check : map class_good (array ∷ classes ∷ take 13 array ∷ take 21 classes ∷ []) ≡ (true ∷ true ∷ false ∷ false ∷ [])
  -- offset 0 is good, covers nothing and gives class 0
  pub offset_0 : (coverage_good_at [] 0 ≡ true) × (coverage_at glyphs 0 56 ≡ None) × (class_good_at [] 0 ≡ true) × (class_at classes 0 48 ≡ 0)
  -- another offset leads into the table; past the end it is cut
  pub offset : (coverage_at (7 ∷ 7 ∷ glyphs) 2 59 ≡ Some 1) × (coverage_good_at glyphs 15 ≡ false)
  -- anchors of each format, and the same with the last byte cut off
  pub anchor : map anchor_of anchors ≡ (Some (point (pos 189) (negsuc 102)) ∷ Some (point (pos 322) (pos 900)) ∷ Some (point (pos 279) (pos 1301)) ∷ [])
  pub anchor_cut : map anchor_of (take 5 (words (1 ∷ 189 ∷ 65433 ∷ [])) ∷ words (3 ∷ 279 ∷ 1301 ∷ 10 ∷ []) ∷ []) ≡ (None ∷ None ∷ [])
  -- the formats 0 and 4 are unknown
  pub anchor_unknown : map anchor_of (words (0 ∷ 1 ∷ 1 ∷ []) ∷ words (4 ∷ 1 ∷ 1 ∷ 1 ∷ 1 ∷ 1 ∷ []) ∷ []) ≡ (None ∷ None ∷ [])
  -- a mark, and a mark record past the count
  pub mark_array : map (mark_of marks) (0 ∷ 1 ∷ []) ≡ (Some (mark 3 (point (pos 10) (pos 20))) ∷ None ∷ [])
  -- a zero anchor offset in a mark record is read as given
  pub mark_zero : mark_of zero_mark 0 ≡ Some (mark 3 (point (pos 3) (pos 0)))
  -- rows: an anchor, a zero offset, a class past the class count, a row past the row count; and a table that isn't whole
  pub row : map (anchor_in rows 1 2 0) (0 ∷ 1 ∷ 2 ∷ []) ≡ (Some (point (pos 7) (pos 8)) ∷ None ∷ None ∷ [])
  pub row_past : (anchor_in rows 1 2 1 0 ≡ None) × (rows_of rows 2 ≡ Some 1) × (rows_of rows 6 ≡ None)

pub worked : Worked
unfolding ascends first_holding span_at spans_from nat_at int_at signed
worked = record {
  coverage_1 = refl;
  coverage_2 = refl;
  coverage_sum = refl;
  coverage_check = refl;
  class_1 = refl;
  class_2 = refl;
  class_check = refl;
  offset_0 = (refl, refl, refl, refl);
  offset = (refl, refl);
  anchor = refl;
  anchor_cut = refl;
  anchor_unknown = refl;
  mark_array = refl;
  mark_zero = refl;
  row = refl;
  row_past = (refl, refl, refl);
}

-- ---- at the ends
-- three offsets and a byte: they lead to the last byte, nowhere, and past the end
abbrev offsets : List ℕ
offsets = 0 ∷ 6 ∷ 0 ∷ 0 ∷ 0 ∷ 9 ∷ 5 ∷ []

pub record Ends : Type 0 where
  -- coverage: an empty list is good and covers nothing; a header of 3 bytes is cut
  pub coverage_empty : (coverage_good (words (1 ∷ 0 ∷ [])) ≡ true) × (coverage_index (words (1 ∷ 0 ∷ [])) 0 ≡ None) × (coverage_good (0 ∷ 1 ∷ 0 ∷ []) ≡ false)
  -- one range of all glyphs; a range may start right after the one before; after glyph 65,535 none can follow
  pub coverage_all : (coverage_good (words (2 ∷ 1 ∷ 0 ∷ 65535 ∷ 0 ∷ [])) ≡ true) × (coverage_index (words (2 ∷ 1 ∷ 0 ∷ 65535 ∷ 0 ∷ [])) 65535 ≡ Some 65535)
  pub coverage_next : map coverage_good (words (2 ∷ 2 ∷ 5 ∷ 9 ∷ 0 ∷ 10 ∷ 10 ∷ 5 ∷ []) ∷ words (2 ∷ 2 ∷ 65535 ∷ 65535 ∷ 0 ∷ 0 ∷ 0 ∷ 1 ∷ []) ∷ []) ≡ (true ∷ false ∷ [])
  -- class lists: no classes in 6 bytes are good, 5 bytes are cut; formats 0 and 3 are unknown; ranges that share a glyph are not ascending
  pub class_ends : map class_good (words (1 ∷ 7 ∷ 0 ∷ []) ∷ take 5 (words (1 ∷ 7 ∷ 0 ∷ [])) ∷ words (0 ∷ 0 ∷ 0 ∷ []) ∷ words (3 ∷ 0 ∷ 0 ∷ [])
      ∷ words (2 ∷ 2 ∷ 5 ∷ 9 ∷ 1 ∷ 9 ∷ 9 ∷ 1 ∷ []) ∷ [])
      ≡ (true ∷ false ∷ false ∷ false ∷ false ∷ [])
  -- an array may run past the last glyph
  pub class_last : (class_good (words (1 ∷ 65535 ∷ 2 ∷ 8 ∷ 9 ∷ [])) ≡ true) × (map (class_of (words (1 ∷ 65535 ∷ 2 ∷ 8 ∷ 9 ∷ []))) (65534 ∷ 65535 ∷ []) ≡ (0 ∷ 8 ∷ []))
  -- a list whose offset is the end of the subtable, or past it, is cut
  pub offset_ends : (map (coverage_good_at glyphs) (14 ∷ 65535 ∷ []) ≡ (false ∷ false ∷ [])) × (map (class_good_at array) (14 ∷ 65535 ∷ []) ≡ (false ∷ false ∷ []))
  -- offsets one by one: to the last byte, 0, one past the end, past the count, cut
  pub children : (map (child_of offsets 0 3) (0 ∷ 1 ∷ 2 ∷ []) ≡ ((5 ∷ []) ∷ [] ∷ [] ∷ [])) × (child_of offsets 0 1 1 ≡ []) × (child_of offsets 0 9 3 ≡ [])
  -- an anchor of format 2 with its coordinates but not its last byte is none; bytes past its own don't matter; coordinates are signed
  pub anchor_ends : map anchor_of (take 7 (words (2 ∷ 1 ∷ 1 ∷ 1 ∷ [])) ∷ words (1 ∷ 32768 ∷ 32767 ∷ 9 ∷ []) ∷ (0 ∷ []) ∷ [])
      ≡ (None ∷ Some (point (negsuc 32767) (pos 32767)) ∷ None ∷ [])
  -- a mark record whose last byte is cut, one whose anchor is cut, and a mark array of one byte
  pub marks_cut : (mark_of (take 5 marks) 0 ≡ None) × (mark_of (take 11 marks) 0 ≡ None) × (mark_of (1 ∷ []) 0 ≡ None)
  -- rows: none; rows without columns; a count of one byte
  pub rows_ends : (rows_of (words (0 ∷ [])) 9 ≡ Some 0) × (rows_of (words (7 ∷ [])) 0 ≡ Some 7) × (rows_of (0 ∷ []) 0 ≡ None)

pub ends : Ends
unfolding ascends first_holding span_at spans_from nat_at int_at signed
ends = record {
  coverage_empty = (refl, refl, refl);
  coverage_all = (refl, refl);
  coverage_next = refl;
  class_ends = refl;
  class_last = (refl, refl);
  offset_ends = (refl, refl);
  children = (refl, refl, refl);
  anchor_ends = refl;
  marks_cut = (refl, refl, refl);
  rows_ends = (refl, refl, refl);
}
