-- Of every answer of an applying call: that it has few hazards, and that it goes on ahead, both from all that its core may say. Assumes nothing.
use mathlib.Core.Path.{refl}
use mathlib.Core.Bool.{Bool, true}
use mathlib.Core.List.{List, [], ◌∷◌}
use Prim.Native.Nat.{ℕ, ◌+◌, ◌<◌}
use native.Mathlib.Omega.{arith}
use lib.ListN.{length}
use Rattle.slots.specs.Axis.{cross, direction_of}
use Rattle.slots.specs.Line.{line_slots}
use Rattle.slots.specs.Slot.{Slot}
use Rattle.slots.specs.declared.axis.Direction.{Direction}
use Rattle.single.specs.SinglePos.{single_adjustment, single_good}
use Rattle.single.proofs.SaidLaws.{says as single-says}
use Rattle.pair.specs.Adjustment.{pair_adjustment}
use Rattle.pair.specs.PairPos.{pair_good}
use Rattle.pair.proofs.SaidLaws.{says as pair-says}
use Rattle.cursive.specs.Attachment.{cursive_attachment}
use Rattle.cursive.specs.CursivePos.{cursive_good}
use Rattle.cursive.proofs.SaidLaws.{says as cursive-says}
use Rattle.targets.specs.MarkPos.{marks_good}
use Rattle.targets.specs.declared.place.Way.{Way}
use Rattle.marks.specs.Attachment.{mark_attachment}
use Rattle.marks.proofs.SaidLaws.{says as mark_says}
use Rattle.answers.specs.theorems.Hazards.{FewHazards}
use Rattle.answers.specs.Outcome.{answer_to, Call}
use Rattle.answers.specs.Said.{applied, declined, Range, refused, Said}
use Rattle.answers.specs.declared.Neighbour.{Neighbour}
use Rattle.checks.specs.declared.neighbours.Beside.{Beside}
use Rattle.checks.specs.declared.neighbours.Beside.TheVariants.{Nothing, Second, Previous}
use Rattle.gpos.specs.SinglePos.{single}
use Rattle.gpos.specs.PairPos.{pair}
use Rattle.gpos.specs.CursivePos.{cursive}
use Rattle.gpos.specs.MarkPos.{beside_of, mark}
use Rattle.gpos.proofs.ApplyingLaws.{call_of, of_made, Parts}
use Rattle.gpos.proofs.NeighbourLaws.{Near}
use Rattle.theorems.specs.Next.{Advances}

-- few hazards; and the next index above i and at most n
abbrev pub Fair : ℕ → ℕ → Said → Type 0
Fair i n given = FewHazards given × Advances i n given

module _ (z : ℕ) (l t : List ℕ) (direction s u i : ℕ) where
  abbrev ss : List Slot
  ss = line_slots z l

  abbrev d : Direction
  d = direction_of direction

  abbrev Here : Said → Type 0
  Here = Fair i (length ss)

  -- it holds of what several calls may say
  refuses : (m : ℕ) → Here (refused m)
  refuses m = (omega arith, tt)

  declines : Here (declined [])
  declines = (omega arith, tt)

  misses : (h : Range) → Here (declined (h ∷ []))
  misses h = (omega arith, tt)

  attaches : i < length ss → (h : Range) (attached : Bool) → Here (applied (i + 1) (h ∷ []) attached)
  attaches in_line h attached = (omega arith, (omega arith, omega arith))

  -- of a call, by what is beside its index, its subtable and its core: where the index is in its place
  module _ (beside : Beside) (good : Bool) (core : Direction → Call) where
    abbrev parts : Parts
    parts = record { direction = direction; s = s; u = u; index = i; beside = beside; good = good; core = core }

    by_core : ((i < length ss) × Near (length ss) i beside → Here ((core d).says ss)) → Here (answer_to (call_of parts) z l)
    by_core follows = of_made parts z l Here refuses follows (record { answer = refl; line = refl })

  pub single_fair : Here (answer_to (single t direction s u i) z l)
  single_fair =
      by_core Nothing (single_good t) (λ d. single_adjustment t d s u i)
      (λ in_place. single-says Here t ss i declines (omega arith, (omega arith, omega arith)))

  pub pair_fair : (second : Neighbour) → Here (answer_to (pair t direction s u i second) z l)
  pair_fair second =
      by_core (Second second) (pair_good t) (λ d. pair_adjustment t d s u i second)
      (λ in_place. pair-says Here d t ss i second declines misses
      (λ j named h. let near = rw named at in_place.1 in (omega arith, (omega arith, omega arith)))
      (λ j named h g. let near = rw named at in_place.1 in (omega arith, (omega arith, omega arith))))

  pub cursive_fair : (previous : Neighbour) (flag : ℕ) → Here (answer_to (cursive t direction s u i previous flag) z l)
  cursive_fair previous flag =
      by_core (Previous previous) (cursive_good t) (λ d. cursive_attachment t d s u i previous flag)
      (λ in_place. cursive-says Here t ss i declines misses (λ h. attaches in_place.0 h true) previous)

  pub mark_fair : (way : Way) → Here (answer_to (mark way t direction s u i) z l)
  mark_fair way =
      by_core (beside_of way) (marks_good t) (λ d. mark_attachment way t d s u i)
      (λ in_place. mark_says Here way (cross d) t ss i (refuses 7) declines misses (attaches in_place.0))
