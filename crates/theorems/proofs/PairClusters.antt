-- Pair adjustment neither looks at clusters nor writes them. Assumes nothing.
use Rattle.std.specs.Prelude.{None, Option, Some, if◌then◌else◌}
use mathlib.Core.List.{List}
use mathlib.Core.Path.{refl, ap₂}
use Prim.Native.Nat.{ℕ}
use lib.Dec.{eqb}
use Rattle.slots.specs.Line.{update}
use Rattle.slots.specs.theorems.Clusters.{Blind, KeepsClusters}
use Rattle.slots.specs.declared.axis.Direction.{Direction}
use Rattle.theorems.proofs.ClusterLaws.{blind_as, blind_by, glyph_blind, keeps_after, same_keeps, update_keeps}
use Rattle.tables.specs.Header.{pos_format}
use Rattle.theorems.proofs.ValueClusters.{valued_keeps}
use Rattle.answers.specs.declared.Neighbour.{Neighbour}
use Rattle.answers.specs.declared.Neighbour.TheVariants.{Named, Missing}
use Rattle.pair.specs.PairPos.{first_class, first_index, value_format1, value_format2, pair_set, second_class}
use Rattle.pair.specs.Plan.{Plan, stop, adjust, after_classes, after_covered, after_neighbour, after_second, after_set, plan_of}
use Rattle.pair.specs.Adjustment.{first_record, planned, second_record}

-- ---- the plan
module _ (t : List ℕ) (i : ℕ) where
  -- by the two glyphs
  second_blind : (k second : ℕ) → Blind (λ ss. after_second t ss i k second)
  second_blind k second cs ss =
      ap₂ (λ (g h : ℕ). if eqb (pos_format t) 1 then after_set t i second h (pair_set t k) else after_classes t i second (first_class t g) (second_class t h))
      (glyph_blind i cs ss) (glyph_blind second cs ss)

  -- by the neighbour that is named
  neighbour_blind : (k : ℕ) (n : Neighbour) → Blind (λ ss. after_neighbour t ss i k n)
  neighbour_blind k (Named second) = second_blind k second
  neighbour_blind k (Missing e) = λ cs ss. refl

  -- by the coverage
  covered_blind : (n : Neighbour) (c : Option ℕ) → Blind (λ ss. after_covered t ss i n c)
  covered_blind n (Some k) = neighbour_blind k n
  covered_blind n None = λ cs ss. refl

  -- the whole
  pub plan_blind : (second : Neighbour) → Blind (λ ss. plan_of t ss i second)
  unfolding plan_of
  plan_blind second = blind_by (blind_as (glyph_blind i) (first_index t)) (λ c ss. after_covered t ss i second c) (covered_blind second)

-- ---- the slots that are left
module _ (s u : ℕ) (d : Direction) (t : List ℕ) (i : ℕ) where
  -- by a plan
  pub planned_keeps : (p : Plan) → KeepsClusters (planned s u d t i p)
  planned_keeps (stop hazards) = same_keeps
  planned_keeps (adjust table at second) = keeps_after (update i _) (update second _)
      (update_keeps _ (valued_keeps s u d (first_record t table at) (value_format1 t)) i)
      (update_keeps _ (valued_keeps s u d (second_record t table at) (value_format2 t)) second)
