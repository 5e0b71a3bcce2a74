-- Values worked by hand from the rules: a slot's bytes, the line's length, parents. They compute. Assumes nothing.
use mathlib.Core.Bool.{true, false}
use mathlib.Core.List.{List, [], ◌∷◌, ◌++◌, map}
use mathlib.Core.Path.{◌≡◌, refl}
use Prim.Native.Nat.{ℕ, zero, suc}
use lib.IntN.{ℤ, pos}
use Rattle.ints.specs.BigEndian.{digits, nat_at}
use Rattle.ints.specs.Saturating.{minus}
use Rattle.ints.specs.Signed.{int_at, pattern, signed}
use Rattle.slots.specs.Checks.{bad_line, bad_length}
use Rattle.slots.specs.theorems.Clusters.{clusters, plain_line, plain_n}
use Rattle.slots.specs.Numbered.{is_numbered_from, numbered_from}
use Rattle.slots.specs.Fields.{attached, flag_in, with_cluster}
use Rattle.slots.specs.Parent.{parent}
use Rattle.slots.specs.Slot.{bytes_of, no_slot, plain_bytes, Slot, slot_of}
use Rattle.slots.specs.declared.fields.Flag.TheVariants.{Seen, Mark, Multiplied}
use Rattle.slots.specs.declared.parent.Parent.{Parent}
use Rattle.slots.specs.declared.parent.Parent.TheVariants.{None, Outside, InLine}

-- 24 bytes with every field at an end of its range, or beside it
abbrev pub full : List ℕ
full =
    1 ∷ 2 ∷ 7 ∷ 15 ∷ 7 ∷ 255 ∷ 128 ∷ 0
    ∷ 127 ∷ 255 ∷ 255 ∷ 255 ∷ 128 ∷ 0 ∷ 0 ∷ 0
    ∷ 255 ∷ 255 ∷ 255 ∷ 255 ∷ 0 ∷ 0 ∷ 1 ∷ 0
    ∷ []

-- the same as a slot, with this type and chain
abbrev pub full_slot : ℕ → ℤ → Slot
full_slot t c =
    record {
      glyph = 258;
      ligature_id = 7;
      component = 15;
      flags = 7;
      attach_type = t;
      chain = c;
      x_advance = pos 2147483647;
      y_advance = minus 2147483648;
      x_offset = minus 1;
      y_offset = pos 256;
      cluster = 0;
    }

-- with the cluster 0x00010203 after them, as a slot too
abbrev pub clustered : List ℕ
clustered = full ++ (0 ∷ 1 ∷ 2 ∷ 3 ∷ [])

abbrev clustered_slot : Slot
clustered_slot = with_cluster 66051 (full_slot 255 (minus 32768))

-- n zero bytes
abbrev zeros : ℕ → List ℕ
zeros zero = []
zeros (suc n) = 0 ∷ zeros n

-- the parent of slot 1 of three, by its chain
abbrev parent_at : ℤ → Parent
parent_at c = parent (no_slot ∷ attached 2 c no_slot ∷ no_slot ∷ []) 1

pub record Worked : Type 0 where
  -- the table of fields, both ways
  pub fields : (slot_of full ≡ full_slot 255 (minus 32768)) × (bytes_of 24 (full_slot 255 (minus 32768)) ≡ full)
  -- with a cluster, both ways
  pub clusters_are : (slot_of clustered ≡ clustered_slot) × (bytes_of 28 clustered_slot ≡ clustered) × (bytes_of 24 clustered_slot ≡ full)
  -- the flags 1, 2 and 4, each alone and all but it
  pub flags_are : (map (flag_in Seen) (1 ∷ 6 ∷ []) ≡ (true ∷ false ∷ [])) × (map (flag_in Mark) (2 ∷ 5 ∷ []) ≡ (true ∷ false ∷ []))
      × (map (flag_in Multiplied) (4 ∷ 3 ∷ []) ≡ (true ∷ false ∷ []))
  -- refusal 1: an empty line is whole; so is one slot, one byte more or less is not
  pub lengths : map (λ (n : ℕ). bad_line 24 (zeros n)) (0 ∷ 23 ∷ 24 ∷ 25 ∷ 48 ∷ []) ≡ (false ∷ true ∷ false ∷ true ∷ false ∷ [])
  pub lengths_clustered : map (λ (n : ℕ). bad_line 28 (zeros n)) (0 ∷ 27 ∷ 28 ∷ 29 ∷ 56 ∷ []) ≡ (false ∷ true ∷ false ∷ true ∷ false ∷ [])
  -- 168 bytes may be slots of either size, which the caller names; no other size has a line, not even an empty one
  pub sizes : map (λ (z : ℕ). bad_line z (zeros 168)) (24 ∷ 28 ∷ 12 ∷ 56 ∷ []) ≡ (false ∷ false ∷ true ∷ true ∷ []) × map (λ (z : ℕ). bad_line z []) (0 ∷ 26 ∷ []) ≡ (true ∷ true ∷ [])
  -- 1,024 slots are the most: 24,576 bytes, and 28,672 with clusters
  pub longest : (map (bad_length 24) (24576 ∷ 24600 ∷ []) ≡ (false ∷ true ∷ [])) × (map (bad_length 28) (24584 ∷ 28672 ∷ 28700 ∷ []) ≡ (false ∷ false ∷ true ∷ []))
  -- chain 0 is not attached; a parent is in the line from slot 0 to the last, and else outside, however far
  pub parents : map parent_at (pos 0 ∷ minus 1 ∷ pos 1 ∷ minus 2 ∷ pos 2 ∷ minus 32768 ∷ pos 32767 ∷ [])
      ≡ (None ∷ InLine 0 ∷ InLine 2 ∷ Outside ∷ Outside ∷ Outside ∷ Outside ∷ [])
  -- moving gives each slot its number; the old bytes of a line with clusters are its first 24 of each 28
  pub numbers : (clusters (numbered_from 0 (clustered_slot ∷ no_slot ∷ no_slot ∷ [])) ≡ (0 ∷ 1 ∷ 2 ∷ [])) × (plain_line (clustered ++ clustered) ≡ full ++ full)
  pub numbered : map (is_numbered_from 0) ((no_slot ∷ with_cluster 1 no_slot ∷ []) ∷ (no_slot ∷ no_slot ∷ []) ∷ (clustered_slot ∷ []) ∷ [] ∷ []) ≡ (true ∷ false ∷ false ∷ true ∷ [])

pub worked : Worked
unfolding digits nat_at pattern signed int_at slot_of plain_bytes parent numbered_from is_numbered_from plain_n
worked = record {
  fields = (refl, refl);
  clusters_are = (refl, refl, refl);
  flags_are = (refl, refl, refl);
  lengths = refl;
  lengths_clustered = refl;
  sizes = (refl, refl);
  longest = (refl, refl);
  parents = refl;
  numbers = (refl, refl);
  numbered = refl;
}
