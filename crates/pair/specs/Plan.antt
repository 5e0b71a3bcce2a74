-- Which record a pair has. Assumes nothing.
use Rattle.std.specs.Prelude.{None, Option, Some, Result, Ok, Err, ◌&&◌, List, [], ◌∷◌, ℕ, ◌+◌, eqb, leb, ltb, length, if◌then◌else◌}
use Rattle.slots.specs.Slot.{Slot}
use Rattle.slots.specs.Line.{slot}
use Rattle.tables.specs.Header.{pos_format}
use Rattle.answers.specs.Said.{Range, unsafe_to_concat}
use Rattle.answers.specs.declared.Neighbour.{Neighbour}
use Rattle.answers.specs.declared.Neighbour.TheVariants.{Named, Missing}
use Rattle.pair.specs.PairPos.{class1_count, class2_count, class_record, first_class, first_index, second_class}
use Rattle.pair.specs.PairPos.{pair_length, pair_set, pair_value_record_size}
use Rattle.pair.specs.PairSet.{pair_value_records, probe, second_glyph_size}
use Rattle.pair.specs.declared.pair_set.Missed.{Missed}
use Rattle.pair.specs.declared.pair_set.Missed.TheVariants.{Nothing, Cut}

-- what is to be done with a pair
pub data Plan : Type 0 where
  -- nothing, with the hazard to report
  stop : (hazards : List Range) → Plan
  -- the two value records that start at a place of a table are to be applied, the second one to the slot `second`
  adjust : (table : List ℕ) (at second : ℕ) → Plan

-- a miss is a hazard: another second glyph might have been found
abbrev pub missed : ℕ → ℕ → Plan
missed idx second = stop (unsafe_to_concat idx (second + 1) ∷ [])

-- format 1: what the probe of the set found; the values follow the second glyph. A set that proves to be cut declines
-- without hazard, as one that is absent does.
abbrev pub after_probe : ℕ → ℕ → List ℕ → Result ℕ Missed → Plan
after_probe idx second set (Ok at) = adjust set (at + second_glyph_size) second
after_probe idx second set (Err Nothing) = missed idx second
after_probe idx second set (Err Cut) = stop []

-- format 1: the set is probed; one that is absent, or cut before its count, declines without hazard
abbrev pub after_set : List ℕ → ℕ → ℕ → ℕ → List ℕ → Plan
after_set t idx second g set =
    if ltb (length set) pair_value_records then stop []
    else after_probe idx second set (probe set (pair_value_record_size t) g)

-- format 2: the record of the two classes, if both are below their counts and it is wholly inside; a class outside its
-- count matches nothing, as in HarfBuzz, and is a miss
abbrev pub after_classes : List ℕ → ℕ → ℕ → ℕ → ℕ → Plan
after_classes t idx second c₁ c₂ =
    if ltb c₁ (class1_count t)
    && (ltb c₂ (class2_count t) && leb (class_record t c₁ c₂ + pair_length t) (length t))
    then adjust t (class_record t c₁ c₂) second else missed idx second

-- the pair of slot idx, covered as k, and the slot `second`
abbrev pub after_second : List ℕ → List Slot → ℕ → ℕ → ℕ → Plan
after_second t ss idx k second =
    if eqb (pos_format t) 1 then after_set t idx second (slot ss second).glyph (pair_set t k)
    else after_classes t idx second (first_class t (slot ss idx).glyph) (second_class t (slot ss second).glyph)

-- the same with the neighbour that the caller names; without one, a glyph up to the bound e might have paired
abbrev pub after_neighbour : List ℕ → List Slot → ℕ → ℕ → Neighbour → Plan
after_neighbour t ss idx k (Named second) = after_second t ss idx k second
after_neighbour t ss idx k (Missing e) = stop (unsafe_to_concat idx e ∷ [])

-- coverage comes first: an uncovered first glyph declines without hazard, also when the second is missing
abbrev pub after_covered : List ℕ → List Slot → ℕ → Neighbour → Option ℕ → Plan
after_covered t ss idx n (Some k) = after_neighbour t ss idx k n
after_covered t ss idx n None = stop []

-- the plan for slot idx and the neighbour that the caller names
unfoldable pub plan_of : List ℕ → List Slot → ℕ → Neighbour → Plan
plan_of t ss idx n = after_covered t ss idx n (first_index t (slot ss idx).glyph)
