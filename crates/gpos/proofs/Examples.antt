-- Values worked by hand from the rules: what starting, finishing and the moves refuse, and in what order; refusal 5 of mark to mark. They compute. Assumes nothing.
use mathlib.Core.Bool.{true, false, not}
use mathlib.Core.List.{List, [], ◌∷◌, map}
use mathlib.Core.Path.{◌≡◌, refl}
use Prim.Native.Nat.{ℕ}
use Rattle.ints.specs.BigEndian.{digits, nat_at}
use Rattle.ints.specs.Signed.{int_at, pattern, signed}
use Rattle.slots.specs.Numbered.{is_numbered_from}
use Rattle.slots.specs.Fields.{with_cluster}
use Rattle.slots.specs.Line.{bytes, slots, slots_n}
use Rattle.slots.specs.Slot.{no_slot, plain_bytes, Slot, slot_of}
use Rattle.answers.specs.Outcome.{answer_to}
use Rattle.answers.specs.Said.{Said, done, refused}
use Rattle.answers.specs.declared.Neighbour.{Neighbour}
use Rattle.answers.specs.declared.Neighbour.TheVariants.{Named, Missing}
use Rattle.targets.specs.declared.place.Way.TheVariants.{Earlier}
use Rattle.checks.specs.Neighbours.{bad_place}
use Rattle.checks.specs.Ranges.{some}
use Rattle.checks.proofs.Examples.{spare, well}
use Rattle.gpos.specs.Finishing.{finish}
use Rattle.gpos.specs.MarkPos.{beside_of}
use Rattle.gpos.specs.Moving.{move_said}
use Rattle.gpos.specs.Starting.{start}

-- what finishing says of a line, a direction and a limit
abbrev finishing : ℕ → List ℕ → ℕ → ℕ → Said
finishing z l direction limit = answer_to (finish direction limit true) z l

-- what the moves say of a line and a target
abbrev there : List ℕ → List ℕ → Said
there l t = move_said 24 28 false l t

abbrev back : List Slot → List ℕ → Said
back ss t = move_said 28 24 (not (is_numbered_from 0 ss)) (bytes 28 ss) t

pub record Worked : Type 0 where
  -- an empty line is started and finished
  pub empty : (answer_to start 28 [] ≡ done) × (finishing 24 [] 3 0 ≡ done)
  -- the caller names the size: a line of one slot with a cluster is no line of slots without one, nor the other way round; and no other size has a line, not even an empty one
  pub sizes : (answer_to start 24 (well 28) ≡ refused 1) × (answer_to start 28 (well 24) ≡ refused 1) × (answer_to start 26 [] ≡ refused 1) × (answer_to start 0 [] ≡ refused 1)
  -- the nesting limit goes to 64; a direction is lower than a limit, a limit lower than a slot
  pub limits : (finishing 24 (well 24) 0 64 ≡ done) × (finishing 28 (well 28) 0 65 ≡ refused 3) × (finishing 24 (well 24) 4 65 ≡ refused 2)
      × (finishing 28 (spare 28) 0 65 ≡ refused 3) × (finishing 24 (spare 24) 0 64 ≡ refused 4)
  -- the moves: 1 before 4 before 10, with all causes at once and then fewer; a target too short, too long, right; empty to empty
  pub moves : there (9 ∷ spare 24) [] ∷ there (spare 24) [] ∷ there (well 24) [] ∷ there (well 24) (9 ∷ well 28) ∷ there (well 24) (well 28) ∷ there [] [] ∷ []
      ≡ (refused 1 ∷ refused 4 ∷ refused 10 ∷ refused 10 ∷ done ∷ done ∷ [])
  -- and back: a cluster that is not its slot's number, one that is
  pub moves_back : map (λ (ss : List Slot). back ss (well 24)) ((with_cluster 7 no_slot ∷ []) ∷ (no_slot ∷ []) ∷ []) ≡ (refused 10 ∷ done ∷ [])
  -- starting looks at the line alone: refusals 1 and 4
  pub starting : (answer_to start 24 (9 ∷ spare 24) ≡ refused 1) × (answer_to start 28 (spare 28) ≡ refused 4) × (answer_to start 24 (well 24) ≡ done)
  -- mark to mark's earlier slot: before the index, or missing by a bound of at most the slot count
  pub earlier : map (λ (n : Neighbour). bad_place 3 1 (beside_of (Earlier n))) (Named 0 ∷ Named 1 ∷ Named 3 ∷ Missing 3 ∷ Missing 4 ∷ []) ≡ (false ∷ true ∷ true ∷ false ∷ true ∷ [])

pub worked : Worked
unfolding digits nat_at pattern signed int_at slot_of plain_bytes slots_n slots bytes some is_numbered_from
worked = record {
  empty = (refl, refl);
  sizes = (refl, refl, refl, refl);
  limits = (refl, refl, refl, refl, refl);
  moves = refl;
  moves_back = refl;
  starting = (refl, refl, refl);
  earlier = refl;
}
