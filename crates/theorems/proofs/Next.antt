-- A call that is applied says to go on above its index, and at most at the line's end: so a loop over a line ends. Assumes nothing.
use Rattle.std.specs.Prelude.{Result}
use mathlib.Core.List.{List}
use Prim.Native.Nat.{ℕ}
use lib.ListN.{length}
use Rattle.slots.specs.Line.{line_slots}
use Rattle.targets.specs.declared.place.Way.{Way}
use Rattle.answers.specs.Said.{said}
use Rattle.answers.specs.declared.Answer.{Answer}
use Rattle.answers.specs.declared.Refusal.{Refusal}
use Rattle.answers.specs.declared.Neighbour.{Neighbour}
use Rattle.gpos.specs.SinglePos.{SingleCall}
use Rattle.gpos.specs.PairPos.{PairCall}
use Rattle.gpos.specs.CursivePos.{CursiveCall}
use Rattle.gpos.specs.MarkPos.{MarkCall}
use Rattle.theorems.specs.Next.{Advances}
use Rattle.theorems.proofs.Answers.{cursive_fair, mark_fair, pair_fair, single_fair}

module _ (z : ℕ) (l t : List ℕ) (direction s u i : ℕ) (r : Result Answer Refusal) (l' : List ℕ) where
  pub single_next : SingleCall z l t direction s u i r l' → Advances i (length (line_slots z l)) (said r)
  single_next o = rw o.answer (single_fair z l t direction s u i).1

  pub pair_next : (second : Neighbour) → PairCall z l t direction s u i second r l' → Advances i (length (line_slots z l)) (said r)
  pair_next second o = rw o.answer (pair_fair z l t direction s u i second).1

  pub cursive_next : (previous : Neighbour) (flag : ℕ) → CursiveCall z l t direction s u i previous flag r l' → Advances i (length (line_slots z l)) (said r)
  cursive_next previous flag o = rw o.answer (cursive_fair z l t direction s u i previous flag).1

  pub mark_next : (way : Way) → MarkCall way z l t direction s u i r l' → Advances i (length (line_slots z l)) (said r)
  mark_next way o = rw o.answer (mark_fair z l t direction s u i way).1
