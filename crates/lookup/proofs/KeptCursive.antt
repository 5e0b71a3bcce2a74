-- Cursive attachment leaves what slots are. Assumes nothing.
use mathlib.Core.Bool.{Bool, true, false}
use mathlib.Core.List.{List}
use mathlib.Core.Path.{◌≡◌, refl, ◌∙◌}
use Prim.Native.Nat.{ℕ, zero, suc}
use lib.Dec.{eqb}
use lib.IntN.{ℤ, pos, neg_ℤ}
use Rattle.ints.specs.Saturating.{sat_add, sat_neg, sat_sub}
use Rattle.ints.specs.Signed.{same_as}
use Rattle.slots.specs.Axis.{cross, main}
use Rattle.slots.specs.Slot.{Slot}
use Rattle.slots.specs.Line.{slot, update}
use Rattle.slots.specs.Fields.{advance, cursive_bit, offset, with_measure}
use Rattle.slots.specs.Parent.{by_parent, cleared, parent}
use Rattle.slots.specs.theorems.Identity.{identities, identity}
use Rattle.slots.specs.declared.axis.Axis.{Axis}
use Rattle.slots.specs.declared.axis.Axis.TheVariants.{X, Y}
use Rattle.slots.specs.declared.axis.Direction.{Direction}
use Rattle.slots.specs.declared.axis.Direction.TheVariants.{LeftToRight, RightToLeft, TopToBottom, BottomToTop}
use Rattle.slots.specs.declared.fields.Measure.TheVariants.{Advance, Offset}
use Rattle.slots.specs.declared.parent.Parent.{Parent}
use Rattle.slots.specs.declared.parent.Parent.TheVariants.{None, Outside, InLine}
use Rattle.answers.specs.declared.Neighbour.{Neighbour}
use Rattle.chains.specs.Chains.{attached_count, chain_to}
use Rattle.chains.specs.Reversal.{reversed, reversed_in, turned}
use Rattle.cursive.specs.CursivePos.{Plan, stop, join, plan_of}
use Rattle.cursive.specs.Attachment.{child_attached, crossed, cursive_attachment, ended, joined_at, planned}
use Rattle.cursive.specs.Attachment.{previous_joined, pulled, right_to_left, scaled_at, separated_by, this_joined, tied}
use Rattle.lookup.proofs.Kept.{choice, cleared_kept, measure_kept, update_kept}

-- ---- reversal
-- what holds of the lines for each kind of parent holds of the one for a parent
by_parent_lem : (P : List Slot → Type 0) (none outside : List Slot) (at : ℕ → List Slot) → P none → P outside → ((j : ℕ) → P (at j))
    → (q : Parent) → P (by_parent q none outside at)
by_parent_lem P none outside at h k l None = h
by_parent_lem P none outside at h k l Outside = k
by_parent_lem P none outside at h k l (InLine j) = l j

module _ (a : Axis) where
  -- a parent hung onto its child
  turned_kept : (was : Slot) (ss : List Slot) (i j : ℕ) → identities (turned a was ss i j) ≡ identities ss
  unfolding turned
  turned_kept was ss i j = update_kept j _ (measure_kept Offset a (sat_neg (offset a (slot ss i)))) ss

  -- in at most n calls
  calls_kept : (n : ℕ) (ss : List Slot) (i p : ℕ) → identities (reversed_in n a ss i p) ≡ identities ss
  unfolding reversed_in
  calls_kept zero ss i p = refl
  calls_kept (suc n) ss i p =
      let Same : List Slot → Type 0 = λ r. identities r ≡ identities ss in
      let clear : Same (cleared ss i) = cleared_kept ss i in
      choice Same _ ss (by_parent_lem Same ss (cleared ss i) _ refl clear
      (λ j. choice Same (cleared ss i) _ clear
      (turned_kept (slot ss i) (reversed_in n a (cleared ss i) j p) i j ∙ calls_kept n (cleared ss i) j p ∙ clear) (eqb j p)) (parent ss i))
      refl (cursive_bit (slot ss i).attach_type)

  -- ---- along the line
  -- a glyph that ends at its anchor
  ended_kept : (z : ℤ) (s : Slot) → identity (ended a z s) ≡ identity s
  ended_kept z s = measure_kept Advance a (sat_add z (offset a s)) s

  -- a glyph pulled back to its anchor
  pulled_kept : (z : ℤ) (s : Slot) → identity (pulled a z s) ≡ identity s
  pulled_kept z s =
      let back : ℤ = sat_add z (offset a s) in
      measure_kept Offset a (sat_sub (offset a s) back) (with_measure Advance a (sat_sub (advance a s) back) s) ∙ measure_kept Advance a (sat_sub (advance a s) back) s

  -- ---- across the line
  -- the parent separated
  separated_kept : (c : ℤ) (at : ℕ) (ss : List Slot) → identities (separated_by a c at ss) ≡ identities ss
  unfolding separated_by
  separated_kept c at ss =
      choice (λ r. identities r ≡ identities ss) _ ss (update_kept at _ (measure_kept Offset a (pos 0)) ss) refl (same_as (slot ss at).chain (neg_ℤ c))

  -- a child hung and the parent separated
  tied_kept : (child at : ℕ) (z : ℤ) (ss : List Slot) → identities (tied a child at z ss) ≡ identities ss
  unfolding tied reversed
  tied_kept child at z ss =
      separated_kept (chain_to child at) at (child_attached a child at z ss)
      ∙ update_kept child _ (measure_kept Offset a z) (reversed a ss child at) ∙ calls_kept (attached_count ss) ss child at

  -- by the flag
  crossed_kept : (later : Bool) (i idx : ℕ) (exit entry : ℤ) (ss : List Slot) → identities (crossed a later i idx exit entry ss) ≡ identities ss
  crossed_kept true i idx exit entry = tied_kept i idx (sat_sub entry exit)
  crossed_kept false i idx exit entry = tied_kept idx i (sat_neg (sat_sub entry exit))

-- ---- both
-- the previous glyph along the line
previous_kept : (d : Direction) (z : ℤ) (s : Slot) → identity (previous_joined d z s) ≡ identity s
previous_kept LeftToRight = ended_kept X
previous_kept RightToLeft = pulled_kept X
previous_kept TopToBottom = ended_kept Y
previous_kept BottomToTop = pulled_kept Y

-- this glyph along the line
this_kept : (d : Direction) (z : ℤ) (s : Slot) → identity (this_joined d z s) ≡ identity s
this_kept LeftToRight = pulled_kept X
this_kept RightToLeft = ended_kept X
this_kept TopToBottom = pulled_kept Y
this_kept BottomToTop = measure_kept Advance Y

-- by a plan
planned_kept : (s u : ℕ) (d : Direction) (flag i : ℕ) (p : Plan) (ss : List Slot) → identities (planned s u d flag i p ss) ≡ identities ss
unfolding joined_at
planned_kept s u d flag i (stop hazards) ss = refl
planned_kept s u d flag i (join j exit entry) ss =
    let ss₁ : List Slot = update j (previous_joined d (scaled_at s u (main d) exit)) ss in
    crossed_kept (cross d) (right_to_left flag) j i (scaled_at s u (cross d) exit) (scaled_at s u (cross d) entry)
    (update i (this_joined d (scaled_at s u (main d) entry)) ss₁)
    ∙ update_kept i _ (this_kept d (scaled_at s u (main d) entry)) ss₁ ∙ update_kept j _ (previous_kept d (scaled_at s u (main d) exit)) ss

-- cursive attachment
pub cursive_kept : (t : List ℕ) (d : Direction) (s u i : ℕ) (previous : Neighbour) (flag : ℕ) (ss : List Slot)
    → identities ((cursive_attachment t d s u i previous flag).leaves ss) ≡ identities ss
cursive_kept t d s u i previous flag ss = planned_kept s u d flag i (plan_of t ss i previous) ss
