-- Single adjustment neither looks at clusters nor writes them. Assumes nothing.
use Rattle.std.specs.Prelude.{None, Option, Some}
use mathlib.Core.List.{List}
use Prim.Native.Nat.{ℕ}
use Rattle.slots.specs.theorems.Clusters.{Blind, KeepsClusters}
use Rattle.slots.specs.declared.axis.Direction.{Direction}
use Rattle.theorems.proofs.ClusterLaws.{blind_as, glyph_blind, same_keeps, update_keeps}
use Rattle.values.specs.Format.{record_at}
use Rattle.theorems.proofs.ValueClusters.{valued_keeps}
use Rattle.single.specs.SinglePos.{adjusted, adjust_said, place_for, single_said, value_format}

-- what is said
pub says_blind : (t : List ℕ) (i : ℕ) → Blind (λ ss. single_said t ss i)
says_blind t i = blind_as (glyph_blind i) (λ g. adjust_said i (place_for t g))

module _ (s u : ℕ) (d : Direction) (t : List ℕ) (i : ℕ) where
  -- the slots that a record at a place leaves
  pub adjusted_keeps : (p : Option ℕ) → KeepsClusters (adjusted s u d t i p)
  adjusted_keeps (Some at) = update_keeps _ (valued_keeps s u d (record_at t at (value_format t)) (value_format t)) i
  adjusted_keeps None = same_keeps
