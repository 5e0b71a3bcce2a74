-- Finishing neither looks at clusters nor writes them. Assumes nothing.
use mathlib.Core.Bool.{Bool, true, false}
use mathlib.Core.Path.{refl, ap₂}
use Prim.Native.Nat.{ℕ, zero, suc}
use lib.ListN.{length}
use Rattle.slots.specs.Axis.{forward}
use Rattle.slots.specs.Line.{slot, update}
use Rattle.slots.specs.Fields.{offset}
use Rattle.slots.specs.theorems.Clusters.{Blind, KeepsClusters, with_clusters}
use Rattle.slots.specs.Parent.{by_parent, cleared}
use Rattle.slots.specs.declared.axis.Axis.{Axis}
use Rattle.slots.specs.declared.axis.Axis.TheVariants.{X, Y}
use Rattle.slots.specs.declared.axis.Direction.{Direction}
use Rattle.slots.specs.declared.fields.Measure.TheVariants.{Offset}
use Rattle.theorems.proofs.ClusterLaws.{advances_blind, blind_by, by_parent_keeps, cleared_keeps, if_keeps, keeps_after, keeps_by, length_blind, measure_blind, parent_blind, same_keeps, type_blind, update_keeps}
use Rattle.finish_rules.specs.Finish.{finished, is_main, taken_in, attach_kind, new_offset, settled, settled_down, settled_up, new_offset_by, shifted, with_offsets}
use Rattle.finish_rules.proofs.Pens.{walked_same}

module _ (d : Direction) where
  -- the advances between two slots put to a number
  walked_blind : (a : Axis) (i j : ℕ) → Blind (λ l. shifted d a l i j)
  walked_blind a i j cs ss = walked_same d a ss (with_clusters cs ss) i j (advances_blind a cs ss)

  -- a new offset
  offset_blind : (i j : ℕ) (a : Axis) → Blind (λ l. new_offset d l i j a)
  offset_blind i j a =
      blind_by (type_blind i) (λ k l. new_offset_by (attach_kind k) (is_main d a) (shifted d a l i j) (offset a (slot l i)) (offset a (slot l j)))
      (λ k. blind_by (walked_blind a i j) (λ w l. new_offset_by (attach_kind k) (is_main d a) w (offset a (slot l i)) (offset a (slot l j)))
      (λ w cs ss. ap₂ (new_offset_by (attach_kind k) (is_main d a) w) (measure_blind Offset a i cs ss) (measure_blind Offset a j cs ss)))

  -- a parent taken in
  joined_keeps : (i j : ℕ) → KeepsClusters (λ l. taken_in d l i j)
  unfolding taken_in
  joined_keeps i j =
      keeps_by (offset_blind i j X) (λ x l. update i (with_offsets x (new_offset d l i j Y)) l)
      (λ x. keeps_by (offset_blind i j Y) (λ y. update i (with_offsets x y)) (λ y. update_keeps (with_offsets x y) (λ c s. refl) i))

  -- a slot settled
  settled_keeps : (n i : ℕ) → KeepsClusters (λ l. settled d n l i)
  unfolding settled
  settled_keeps zero i =
      keeps_by (parent_blind i) (λ p l. by_parent p l (cleared l i) (λ j. cleared l i))
      (by_parent_keeps (λ l. l) (λ l. cleared l i) same_keeps (cleared_keeps i) (λ j l. cleared l i) (λ j. cleared_keeps i))
  settled_keeps (suc n) i =
      keeps_by (parent_blind i) (λ p l. by_parent p l (cleared l i) (λ j. taken_in d (settled d n (cleared l i) j) i j))
      (by_parent_keeps (λ l. l) (λ l. cleared l i) same_keeps (cleared_keeps i) (λ j l. taken_in d (settled d n (cleared l i) j) i j)
      (λ j. keeps_after (λ l. settled d n (cleared l i) j) (λ l. taken_in d l i j)
      (keeps_after (λ l. cleared l i) (λ l. settled d n l j) (cleared_keeps i) (settled_keeps n j)) (joined_keeps i j)))

  -- the first k slots settled, from the first up
  up_keeps : (limit k : ℕ) → KeepsClusters (λ l. settled_up d limit l k)
  unfolding settled_up
  up_keeps limit zero = same_keeps
  up_keeps limit (suc k) = keeps_after (λ l. settled_up d limit l k) (λ l. settled d limit l k) (up_keeps limit k) (settled_keeps limit k)

  -- the first k slots settled, from the last of them down
  down_keeps : (limit k : ℕ) → KeepsClusters (λ l. settled_down d limit l k)
  unfolding settled_down
  down_keeps limit zero = same_keeps
  down_keeps limit (suc k) = keeps_after (λ l. settled d limit l k) (λ l. settled_down d limit l k) (settled_keeps limit k) (down_keeps limit k)

  -- the line finished
  pub finished_keeps : (limit : ℕ) (flag : Bool) → KeepsClusters (finished d limit flag)
  unfolding finished
  finished_keeps limit false = same_keeps
  finished_keeps limit true =
      if_keeps (λ l. settled_up d limit l (length l)) (λ l. settled_down d limit l (length l))
      (keeps_by length_blind (λ k l. settled_up d limit l k) (up_keeps limit))
      (keeps_by length_blind (λ k l. settled_down d limit l k) (down_keeps limit)) (forward d)
