-- What a call that is ready knows of its neighbour, by its kind. Assumes nothing.
use mathlib.Core.Path.{◌≡◌, refl, sym, ap, subst, ◌∙◌}
use mathlib.Core.List.{List}
use Prim.Native.Nat.{ℕ}
use Rattle.slots.specs.Slot.{Slot}
use Rattle.slots.proofs.LineLaws.{length_slots}
use Rattle.answers.specs.code.Neighbours.{Before}
use Rattle.answers.specs.declared.Neighbour.{Neighbour}
use Rattle.pair.specs.code.Meant.{After}
use Rattle.lookup.specs.Neighbours.{neighbour_for, previous, second}
use Rattle.lookup.specs.code.Calls.{Ready, slots_now}
use Rattle.lookup.specs.declared.kinds.Kind.{Kind}
use Rattle.lookup.specs.declared.kinds.Kind.TheVariants.{Pair, Cursive, MarkMark}
use Rattle.lookup.specs.declared.state.State.{State}
use Rattle.lookup.proofs.NeighbourLaws.{previous_before, second_after}

module _ {l t : List ℕ} {st : State} (ready : Ready l t st) where
  abbrev ss : List Slot
  ss = slots_now l st

  -- ---- by its kind
  module _ (k : Kind) (is : st.lookup.kind ≡ k) where
    near_as : st.near ≡ neighbour_for k ss st.index
    near_as = ready.near_is ∙ ap (λ (x : Kind). neighbour_for x ss st.index) is

  -- the second glyph of a pair is after the index and in the line
  pub pair_near : st.lookup.kind ≡ Pair → After st.lookup.shape.count st.index st.near
  pair_near is =
      subst (λ (n : Neighbour). After st.lookup.shape.count st.index n) (sym (near_as Pair is))
      (subst (λ (c : ℕ). After c st.index (second ss st.index)) (length_slots st.lookup.shape l) (second_after ss st.index))

  -- the previous glyph, or the earlier mark, is before it
  pub before_near : (k : Kind) → st.lookup.kind ≡ k → neighbour_for k ss st.index ≡ previous ss st.index → Before st.index st.near
  before_near k is e = subst (Before st.index) (sym (near_as k is ∙ e)) (previous_before ss st.index)

  pub cursive_near : st.lookup.kind ≡ Cursive → Before st.index st.near
  cursive_near is = before_near Cursive is refl

  pub mark_near : st.lookup.kind ≡ MarkMark → Before st.index st.near
  mark_near is = before_near MarkMark is refl

-- what each kind asks of the neighbour
pub ruleset of_ready = (pair_near, cursive_near, mark_near)
