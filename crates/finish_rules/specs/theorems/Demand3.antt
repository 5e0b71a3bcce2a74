-- Demand 3: where the glyphs of a finished line are drawn. Assumes nothing.
use Rattle.std.specs.Prelude.{Bool, true, false, List, ◌≡◌, ℕ, zero, suc, ◌≤◌, ◌<◌, ℤ, pos, nat_abs, ◌+ℤ◌, length, take, drop}
use Rattle.ints.specs.Sums.{total}
use Rattle.slots.specs.Axis.{cross, forward, main}
use Rattle.slots.specs.Slot.{Slot}
use Rattle.slots.specs.Line.{slot}
use Rattle.slots.specs.Fields.{advance, offset}
use Rattle.slots.specs.Parent.{parent}
use Rattle.slots.specs.declared.axis.Axis.{Axis}
use Rattle.slots.specs.declared.axis.Direction.{Direction}
use Rattle.slots.specs.declared.parent.Parent.TheVariants.{InLine}
use Rattle.finish_rules.specs.Finish.{advances, max_nesting_level}

-- pen place: the sum of the advances of earlier slots in a forward direction, of later slots in a backward one
unfoldable pub pen_of : Bool → List ℤ → ℕ → ℤ
pen_of true zs i = total (take i zs)
pen_of false zs i = total (drop (suc i) zs)

abbrev pub pen : Direction → Axis → List Slot → ℕ → ℤ
pen d a l i = pen_of (forward d) (advances a l) i

-- drawn place: the pen place, moved by the offset
abbrev pub drawn : Direction → Axis → List Slot → ℕ → ℤ
drawn d a l i = pen d a l i +ℤ offset a (slot l i)

-- from slot i at most n hops, each to a parent in the line, lead to where the chain ends
abbrev pub EndsWithin : List Slot → ℕ → ℕ → Type 0
EndsWithin l zero i = (j : ℕ) → parent l i ≡ InLine j → ⊥
EndsWithin l (suc n) i = (j : ℕ) → parent l i ≡ InLine j → EndsWithin l n j

-- the lines that demand 3 speaks of
pub record Bounded (limit : ℕ) (l : List Slot) : Type 0 where
  pub few_slots : length l ≤ 1024
  pub nesting : limit ≤ max_nesting_level
  pub advances_near : (i : ℕ) (a : Axis) → i < length l → nat_abs (advance a (slot l i)) ≤ 524288
  pub offsets_near : (i : ℕ) (a : Axis) → i < length l → nat_abs (offset a (slot l i)) ≤ 524288
  pub chains_end : (i : ℕ) → i < length l → EndsWithin l limit i

-- a mark on its parent j, and a cursive glyph on its parent j: types 1 and 2, with the parent in the line
pub record Mark (l : List Slot) (i j : ℕ) : Type 0 where
  pub type_is : (slot l i).attach_type ≡ 1
  pub parent_is : parent l i ≡ InLine j

pub record Cursive (l : List Slot) (i j : ℕ) : Type 0 where
  pub type_is : (slot l i).attach_type ≡ 2
  pub parent_is : parent l i ≡ InLine j

-- what finishing never changes of a slot
pub record Kept (before after : Slot) : Type 0 where
  pub glyph_kept : after.glyph ≡ before.glyph
  pub id_kept : after.ligature_id ≡ before.ligature_id
  pub component_kept : after.component ≡ before.component
  pub flags_kept : after.flags ≡ before.flags
  pub type_kept : after.attach_type ≡ before.attach_type
  pub cluster_kept : after.cluster ≡ before.cluster
  pub advances_kept : (a : Axis) → advance a after ≡ advance a before

-- the line l, and the line l' that it has become
pub record Demand3 (d : Direction) (l l' : List Slot) : Type 0 where
  -- a mark is drawn, along the line, at its parent's drawn place plus its stored offset
  pub mark_along : (i j : ℕ) → Mark l i j → drawn d (main d) l' i ≡ drawn d (main d) l' j +ℤ offset (main d) (slot l i)
  -- across the line, at its parent's pen place plus its stored offset: mark attachment has put its base's cross offset
  -- into that
  pub mark_across : (i j : ℕ) → Mark l i j → drawn d (cross d) l' i
      ≡ pen d (cross d) l' j +ℤ offset (cross d) (slot l i)
  -- a cursive glyph's cross offset is its stored one plus its parent's final one
  pub cursive_across : (i j : ℕ) → Cursive l i j → offset (cross d) (slot l' i)
      ≡ offset (cross d) (slot l i) +ℤ offset (cross d) (slot l' j)
  -- all other offsets are as before: a cursive glyph's along the line,
  pub cursive_along : (i j : ℕ) → Cursive l i j → offset (main d) (slot l' i) ≡ offset (main d) (slot l i)
  -- and both of a slot that is neither a mark nor a cursive glyph, by its type or for want of a parent in the line
  pub others : (i : ℕ) (a : Axis) → ((j : ℕ) → Mark l i j → ⊥) → ((j : ℕ) → Cursive l i j → ⊥) → offset a (slot l' i)
      ≡ offset a (slot l i)
  -- all else is as before, the number of slots too
  pub rest_kept : (i : ℕ) → Kept (slot l i) (slot l' i)
  pub same_count : length l' ≡ length l
  -- and no chain remains
  pub no_chain : (i : ℕ) → (slot l' i).chain ≡ pos 0
