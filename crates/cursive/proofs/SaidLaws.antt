-- All that cursive attachment may say, by the plan's cases: a property that holds of each holds of what it says. Assumes nothing.
use Rattle.std.specs.Prelude.{None, Option, Some}
use mathlib.Core.Bool.{true}
use mathlib.Core.List.{List, [], ◌∷◌}
use Prim.Native.Nat.{ℕ, ◌+◌}
use Rattle.slots.specs.Slot.{Slot}
use Rattle.slots.specs.Line.{slot}
use Rattle.tables.specs.Anchor.{Point}
use Rattle.answers.specs.Said.{applied, declined, Range, Said}
use Rattle.answers.specs.declared.Neighbour.{Neighbour}
use Rattle.answers.specs.declared.Neighbour.TheVariants.{Named, Missing}
use Rattle.cursive.specs.CursivePos.{entry_of, exit_of, after_covered, after_entry, after_exit, after_neighbour, after_previous, index_of, plan_of, plan_said}

module _ (P : Said → Type 0) (t : List ℕ) (ss : List Slot) (idx : ℕ)
    (declines : P (declined []))
    (misses : (h : Range) → P (declined (h ∷ [])))
    (joins : (h : Range) → P (applied (idx + 1) (h ∷ []) true)) where
  exits : (i : ℕ) (entry : Point) (exit : Option Point) → P (plan_said idx (after_exit idx i entry exit))
  exits i entry (Some exit) = joins _
  exits i entry None = misses _

  previous : (i : ℕ) (entry : Point) (c : (Option ℕ)) → P (plan_said idx (after_previous t idx i entry c))
  previous i entry (Some k) = exits i entry (exit_of t k)
  previous i entry None = declines

  neighbour : (n : Neighbour) (entry : Point) → P (plan_said idx (after_neighbour t ss idx n entry))
  neighbour (Named i) entry = previous i entry (index_of t (slot ss i).glyph)
  neighbour (Missing f) entry = misses _

  entries : (n : Neighbour) (entry : Option Point) → P (plan_said idx (after_entry t ss idx n entry))
  entries n (Some entry) = neighbour n entry
  entries n None = declines

  covered : (n : Neighbour) (c : (Option ℕ)) → P (plan_said idx (after_covered t ss idx n c))
  covered n (Some k) = entries n (entry_of t k)
  covered n None = declines

  pub says : (n : Neighbour) → P (plan_said idx (plan_of t ss idx n))
  unfolding plan_of
  says n = covered n (index_of t (slot ss idx).glyph)
