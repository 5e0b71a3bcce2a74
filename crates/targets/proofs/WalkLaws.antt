-- Laws of the walk: one turn of it, and that it is refused exactly where it never ends. Assumes nothing.
use Rattle.std.specs.Prelude.{None, Some, if◌then◌else◌}
use mathlib.Core.Path.{◌≡◌, refl, sym, ap, ◌∙◌}
use mathlib.Core.Bool.{Bool, true, false}
use mathlib.Core.List.{List}
use Prim.Native.Nat.{ℕ, zero, suc, ◌+◌, ◌-◌, ◌≤◌, ◌<◌}
use native.Mathlib.Omega.{arith}
use lib.IntN.{ℤ}
use lib.ListN.{length}
use Rattle.ints.specs.Saturating.{sat_add}
use Rattle.ints.specs.theorems.Steps.{steps}
use Rattle.ints.proofs.StepsLaws.{never_done}
use Rattle.slots.specs.Slot.{Slot}
use Rattle.slots.specs.Line.{slot}
use Rattle.slots.specs.Fields.{cursive_bit, offset}
use Rattle.slots.specs.Parent.{by_parent, parent}
use Rattle.slots.specs.declared.axis.Axis.{Axis}
use Rattle.slots.specs.declared.parent.Parent.{Parent}
use Rattle.slots.specs.declared.parent.Parent.TheVariants.{None, Outside, InLine}
pub use Rattle.slots.proofs.LineLaws.{length_slots}
use Rattle.slots.proofs.ParentLaws.{parent_in_line}
use Rattle.targets.specs.Walk.{climb, cross_offset, cross_offset_in}
use Rattle.targets.specs.theorems.Endless.{ends_at, Endless, next, up}

-- ---- where the walk goes on
-- it stays in the line
pub climb_in : (ss : List Slot) (i j : ℕ) → climb ss i ≡ InLine j → j < length ss
climb_in ss i j e = go (cursive_bit (slot ss i).attach_type) e
  where
    go : (b : Bool) → (if b then parent ss i else None) ≡ InLine j → j < length ss
    go true h = parent_in_line ss i j h
    go false h = cc

-- ---- the walk by the tests that are left: n, where slot i climbs to p; none
module _ (a : Axis) (ss : List Slot) where
  by_climb : (n i : ℕ) (sum : ℤ) (p : Parent) → climb ss i ≡ p
      → cross_offset_in (suc n) a ss i sum ≡ by_parent p (Some sum) (Some sum) (λ j. cross_offset_in n a ss j (sat_add sum (offset a (slot ss j))))
  unfolding cross_offset_in
  by_climb n i sum p e = ap (λ (q : Parent). by_parent q (Some sum) (Some sum) (λ j. cross_offset_in n a ss j (sat_add sum (offset a (slot ss j))))) e

  pub walk_out : (n i : ℕ) (sum : ℤ) → n ≤ 0 → cross_offset_in n a ss i sum ≡ None
  unfolding cross_offset_in
  walk_out n i sum h = let e : n ≡ 0 = omega arith in rw e

  pub walk_turn : (n i : ℕ) (sum : ℤ) → 0 < n → (p : Parent) → climb ss i ≡ p
      → cross_offset_in n a ss i sum ≡ by_parent p (Some sum) (Some sum) (λ j. cross_offset_in (n - 1) a ss j (sat_add sum (offset a (slot ss j))))
  walk_turn n i sum more p e =
      let one : n ≡ suc (n - 1) = omega arith in
      ap (λ (m : ℕ). cross_offset_in m a ss i sum) one ∙ by_climb (n - 1) i sum p e

  pub walk_on : (n m i j : ℕ) (sum : ℤ) → n ≡ m + 1 → climb ss i ≡ InLine j
      → cross_offset_in n a ss i sum ≡ cross_offset_in m a ss j (sat_add sum (offset a (slot ss j)))
  walk_on n m i j sum one e = let next : n ≡ suc m = omega arith in rw next (by_climb m i sum (InLine j) e)

pub walk_start : (a : Axis) (ss : List Slot) (i : ℕ) → cross_offset a ss i ≡ cross_offset_in (length ss) a ss i (offset a (slot ss i))
unfolding cross_offset
walk_start a ss i = refl

-- what code's walk goes by
pub ruleset walking = (length_slots, climb_in, walk_start, walk_on)

-- ---- a walk that has not ended
-- a step taken first or last
steps_first : (f : ℕ → ℕ) (i k : ℕ) → steps f (f i) k ≡ steps f i (suc k)
unfolding steps
steps_first f i zero = refl
steps_first f i (suc k) = ap f (steps_first f i k)

module _ (ss : List Slot) where
  ends_by : (i : ℕ) (p : Parent) → climb ss i ≡ p → ends_at ss i ≡ by_parent p true true (λ j. false)
  unfolding ends_at
  ends_by i p e = ap (λ (q : Parent). by_parent q true true (λ j. false)) e

  next_at : (i j : ℕ) → climb ss i ≡ InLine j → next ss i ≡ j
  unfolding next
  next_at i j e = ap (λ (q : Parent). by_parent q i i (λ k. k)) e

  up_at : (i j k : ℕ) → climb ss i ≡ InLine j → up ss i (suc k) ≡ up ss j k
  up_at i j k e = sym (steps_first (next ss) i k) ∙ ap (λ (x : ℕ). steps (next ss) x k) (next_at i j e)

  -- where it has not ended, it goes on within the line
  next_in : (i : ℕ) → ends_at ss i ≡ false → next ss i < length ss
  next_in i h = go (climb ss i) refl
    where
      go : (p : Parent) → climb ss i ≡ p → next ss i < length ss
      go None e = let w = ends_by i None e in cc
      go Outside e = let w = ends_by i Outside e in cc
      go (InLine j) e = rw (next_at i j e) (climb_in ss i j e)

  module _ (a : Axis) where
    -- no answer in n tests: in the first n steps it has not ended
    going : (n i : ℕ) (sum : ℤ) → cross_offset_in n a ss i sum ≡ None → (k : ℕ) → k < n → ends_at ss (up ss i k) ≡ false
    unfolding steps
    going zero i sum h k l = absurd (omega arith)
    going (suc n) i sum h k l = go (climb ss i) refl (going n) k l
      where
        go : (p : Parent) → climb ss i ≡ p → ((j : ℕ) (s : ℤ) → cross_offset_in n a ss j s ≡ None → (k : ℕ) → k < n → ends_at ss (up ss j k) ≡ false)
            → (k : ℕ) → k < suc n → ends_at ss (up ss i k) ≡ false
        go None e rest k l = let w = by_climb a ss n i sum None e in cc
        go Outside e rest k l = let w = by_climb a ss n i sum Outside e in cc
        go (InLine j) e rest zero l = ends_by i (InLine j) e
        go (InLine j) e rest (suc k) l =
            let w : cross_offset_in n a ss j (sat_add sum (offset a (slot ss j))) ≡ None = sym (by_climb a ss n i sum (InLine j) e) ∙ h in
            ap (ends_at ss) (up_at i j k e) ∙ rest j (sat_add sum (offset a (slot ss j))) w k (omega arith)

    -- and the other way
    unanswered : (n i : ℕ) (sum : ℤ) → ((k : ℕ) → k < n → ends_at ss (up ss i k) ≡ false) → cross_offset_in n a ss i sum ≡ None
    unfolding steps
    unanswered zero i sum h = walk_out a ss 0 i sum (omega arith)
    unanswered (suc n) i sum h = go (climb ss i) refl (unanswered n)
      where
        go : (p : Parent) → climb ss i ≡ p → ((j : ℕ) (s : ℤ) → ((k : ℕ) → k < n → ends_at ss (up ss j k) ≡ false) → cross_offset_in n a ss j s ≡ None)
            → cross_offset_in (suc n) a ss i sum ≡ None
        go None e rest = let w = ends_by i None e in let v = h 0 (omega arith) in cc
        go Outside e rest = let w = ends_by i Outside e in let v = h 0 (omega arith) in cc
        go (InLine j) e rest =
            by_climb a ss n i sum (InLine j) e
            ∙ rest j (sat_add sum (offset a (slot ss j))) (λ k l. sym (ap (ends_at ss) (up_at i j k e)) ∙ h (suc k) (omega arith))

    -- The law of the walk: it is refused exactly where, for every number of steps, it has not ended.
    pub refused_never : (i : ℕ) → i < length ss → cross_offset a ss i ≡ None → Endless ss i
    unfolding cross_offset
    refused_never i h e = never_done (next ss) (ends_at ss) (length ss) i h (λ x l w. next_in x w) (going (length ss) i (offset a (slot ss i)) e)

    pub never_refused : (i : ℕ) → Endless ss i → cross_offset a ss i ≡ None
    unfolding cross_offset
    never_refused i h = unanswered (length ss) i (offset a (slot ss i)) (λ k l. h k)
