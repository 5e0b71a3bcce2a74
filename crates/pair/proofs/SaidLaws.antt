-- All that pair adjustment may say, by the plan's cases: a property that holds of each holds of what it says. Assumes nothing.
use Rattle.std.specs.Prelude.{None, Option, Some, Result, Ok, Err, if◌then◌else◌}
use mathlib.Core.Path.{◌≡◌, refl}
use mathlib.Core.Bool.{Bool, true, false, ◌&&◌}
use mathlib.Core.List.{List, [], ◌∷◌}
use Prim.Native.Nat.{ℕ, ◌+◌}
use lib.Dec.{eqb, leb, ltb}
use lib.ListN.{length}
use Rattle.slots.specs.Slot.{Slot}
use Rattle.slots.specs.Line.{slot}
use Rattle.slots.specs.declared.axis.Direction.{Direction}
use Rattle.tables.specs.Header.{pos_format}
use Rattle.answers.specs.Said.{applied, declined, Range, Said}
use Rattle.answers.specs.declared.Neighbour.{Neighbour}
use Rattle.answers.specs.declared.Neighbour.TheVariants.{Named, Missing}
use Rattle.pair.specs.Adjustment.{either_worked, has_second, pair_said, plan_said}
use Rattle.pair.specs.PairPos.{class_record, first_class, class1_count, first_index, pair_length, pair_set, second_class, class2_count}
use Rattle.pair.specs.PairSet.{probe}
use Rattle.pair.specs.Plan.{Plan, adjust, after_classes, after_covered, after_neighbour, after_probe, after_set, plan_of}
use Rattle.pair.specs.declared.pair_set.Missed.{Missed}
use Rattle.pair.specs.declared.pair_set.Missed.TheVariants.{Nothing, Cut}

module _ (P : Said → Type 0) (d : Direction) (t : List ℕ) (ss : List Slot) (idx : ℕ) (n : Neighbour)
    (declines : P (declined []))
    (misses : (h : Range) → P (declined (h ∷ [])))
    (first : (second : ℕ) → n ≡ Named second → (h : Range) → P (applied second (h ∷ []) false))
    (both : (second : ℕ) → n ≡ Named second → (h g : Range) → P (applied (second + 1) (h ∷ g ∷ []) false)) where
  -- of a choice between two plans
  either : (b : Bool) (p q : Plan) → P (plan_said d t idx p) → P (plan_said d t idx q) → P (plan_said d t idx (if b then p else q))
  either true p q of-p of-q = of-p
  either false p q of-p of-q = of-q

  -- with the second slot that is named
  module _ (second : ℕ) (named : n ≡ Named second) where
    adjusts : (table : List ℕ) (at : ℕ) → P (plan_said d t idx (adjust table at second))
    adjusts table at = go (has_second t)
      where
        go : (more : Bool) → P (pair_said (either_worked d t table at) more idx second)
        go true = both second named _ _
        go false = first second named _

    probes : (set : List ℕ) (found : Result ℕ Missed) → P (plan_said d t idx (after_probe idx second set found))
    probes set (Ok at) = adjusts set (at + 2)
    probes set (Err Nothing) = misses _
    probes set (Err Cut) = declines

    sets : (g : ℕ) (set : List ℕ) → P (plan_said d t idx (after_set t idx second g set))
    sets g set = either (ltb (length set) 2) _ _ declines (probes set (probe set (2 + pair_length t) g))

    classes : (c₁ c₂ : ℕ) → P (plan_said d t idx (after_classes t idx second c₁ c₂))
    classes c₁ c₂ = either (ltb c₁ (class1_count t) && (ltb c₂ (class2_count t) && leb (class_record t c₁ c₂ + pair_length t) (length t))) _ _
        (adjusts t (class_record t c₁ c₂)) (misses _)

  neighbour : (k : ℕ) (m : Neighbour) → n ≡ m → P (plan_said d t idx (after_neighbour t ss idx k m))
  neighbour k (Named second) named = either (eqb (pos_format t) 1) _ _ (sets second named (slot ss second).glyph (pair_set t k))
      (classes second named (first_class t (slot ss idx).glyph) (second_class t (slot ss second).glyph))
  neighbour k (Missing e) named = misses _

  covered : (c : (Option ℕ)) → P (plan_said d t idx (after_covered t ss idx n c))
  covered (Some k) = neighbour k n refl
  covered None = declines

  pub says : P (plan_said d t idx (plan_of t ss idx n))
  unfolding plan_of
  says = covered (first_index t (slot ss idx).glyph)
