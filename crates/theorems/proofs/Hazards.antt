-- A call that is applied reports at most two hazards, one that declines at most one, one that refuses none. Assumes nothing.
use Rattle.std.specs.Prelude.{Result}
use mathlib.Core.List.{List}
use Prim.Native.Nat.{ℕ}
use Rattle.targets.specs.declared.place.Way.{Way}
use Rattle.answers.specs.theorems.Hazards.{FewHazards}
use Rattle.answers.specs.Said.{said}
use Rattle.answers.specs.declared.Answer.{Answer}
use Rattle.answers.specs.declared.Refusal.{Refusal}
use Rattle.answers.specs.declared.Neighbour.{Neighbour}
use Rattle.gpos.specs.SinglePos.{SingleCall}
use Rattle.gpos.specs.PairPos.{PairCall}
use Rattle.gpos.specs.CursivePos.{CursiveCall}
use Rattle.gpos.specs.MarkPos.{MarkCall}
use Rattle.theorems.proofs.Answers.{cursive_fair, mark_fair, pair_fair, single_fair}

module _ (z : ℕ) (l t : List ℕ) (direction s u i : ℕ) (r : Result Answer Refusal) (l' : List ℕ) where
  pub single_hazards : SingleCall z l t direction s u i r l' → FewHazards (said r)
  single_hazards o = rw o.answer (single_fair z l t direction s u i).0

  pub pair_hazards : (second : Neighbour) → PairCall z l t direction s u i second r l' → FewHazards (said r)
  pair_hazards second o = rw o.answer (pair_fair z l t direction s u i second).0

  pub cursive_hazards : (previous : Neighbour) (flag : ℕ) → CursiveCall z l t direction s u i previous flag r l' → FewHazards (said r)
  cursive_hazards previous flag o = rw o.answer (cursive_fair z l t direction s u i previous flag).0

  pub mark_hazards : (way : Way) → MarkCall way z l t direction s u i r l' → FewHazards (said r)
  mark_hazards way o = rw o.answer (mark_fair z l t direction s u i way).0
