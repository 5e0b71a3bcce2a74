-- Values worked by hand from the rules: what answers say, the lowest refusal, the line afterwards. They compute. Assumes nothing.
use mathlib.Core.Bool.{true, false}
use mathlib.Core.List.{[], ◌∷◌, map}
use mathlib.Core.Path.{◌≡◌, refl}
use Rattle.slots.specs.Slot.{no_slot}
use Rattle.answers.specs.theorems.Hazards.{most_hazards}
use Rattle.answers.specs.Outcome.{line_after}
use Rattle.answers.specs.Said.{unsafe_to_break, unsafe_to_concat, Said, applied, declined, done, refused, refusal_number, said, said_done, said_moved, unless}
use Rattle.answers.specs.declared.HazardKind.TheVariants.{UnsafeToBreak, UnsafeToConcat}
use Rattle.answers.specs.declared.UpToTwo.TheVariants.{None, One, Two}
use Rattle.answers.specs.declared.Refusal.TheVariants.{Line, Direction, Number, Slot, Index, Subtable, Endless}
use Rattle.answers.specs.declared.WiderRefusal.TheVariants.{Shared, Unfit}
use Rattle.answers.specs.declared.Answer.TheVariants.{Applied, Declined}
use Rattle.std.specs.Prelude.{Ok, Err}

pub record Worked : Type 0 where
  -- the table's seven numbers, each once
  pub numbers : map refusal_number (Line ∷ Direction ∷ Number ∷ Slot ∷ Index ∷ Subtable ∷ Endless ∷ []) ≡ (1 ∷ 2 ∷ 3 ∷ 4 ∷ 5 ∷ 6 ∷ 7 ∷ [])
  -- hazards are said in order, as named, also where the end is not above the start
  pub hazards : said (Ok (Applied 2 (Two (record { kind = UnsafeToConcat; start = 0; end = 2 }) (record { kind = UnsafeToBreak; start = 0; end = 3 })) true))
      ≡ applied 2 (unsafe_to_concat 0 2 ∷ unsafe_to_break 0 3 ∷ []) true
  pub backward : said (Ok (Declined (One (record { kind = UnsafeToConcat; start = 1; end = 0 })))) ≡ declined (unsafe_to_concat 1 0 ∷ [])
  -- applied: up to two hazards; declined: one or none; refused, done: none
  pub most : map most_hazards (applied 2 [] true ∷ declined [] ∷ refused 7 ∷ done ∷ []) ≡ (2 ∷ 1 ∷ 0 ∷ 0 ∷ [])
  -- a refusal carries its number alone; starting and finishing say "done"
  pub others : (said (Ok (Declined None)) ≡ declined []) × (said (Err Endless) ≡ refused 7) × (said_done (Ok tt) ≡ done) × (said_done (Err Slot) ≡ refused 4)
  -- so do the moves, which have a refusal of their own
  pub moves : map said_moved (Ok tt ∷ Err (Shared Line) ∷ Err (Shared Slot) ∷ Err Unfit ∷ []) ≡ (done ∷ refused 1 ∷ refused 4 ∷ refused 10 ∷ [])
  -- of several tests that hold the first refuses; where none holds, what follows is said
  pub lowest : (unless ((false, 1) ∷ (true, 2) ∷ (false, 3) ∷ (true, 4) ∷ []) done ≡ refused 2) × (unless ((false, 1) ∷ (false, 4) ∷ []) done ≡ done)
  -- a refusal and a decline leave the very bytes, whatever slots were to be there, even a line that is no whole slots
  pub untouched : map (λ (s : Said). line_after 24 s (9 ∷ []) (no_slot ∷ [])) (refused 1 ∷ declined [] ∷ declined (unsafe_to_concat 0 1 ∷ []) ∷ []) ≡ ((9 ∷ []) ∷ (9 ∷ []) ∷ (9 ∷ []) ∷ [])

pub worked : Worked
worked = record { numbers = refl; hazards = refl; backward = refl; most = refl; others = (refl, refl, refl, refl); moves = refl; lowest = (refl, refl); untouched = refl }
