-- What the checks that calls share find of a line l, of slots of z bytes. Assumes nothing.
use Rattle.std.specs.Prelude.{Err, Ok, Result}
use Rattle.std.specs.Prelude.{Bool, List, [], ◌∷◌, ◌≡◌, ℕ, length}
use Rattle.slots.specs.Checks.{bad_line}
use Rattle.slots.specs.Line.{line_slots, shape_of}
use Rattle.slots.specs.declared.shape.Shape.{Shape}
use Rattle.answers.specs.declared.Refusal.{Refusal}
use Rattle.answers.specs.Said.{done, refusal_number, refused, Said, unless}
use Rattle.checks.specs.Ranges.{bad_slots}
use Rattle.checks.specs.Arguments.{applying_tests, slot_tests}
use Rattle.checks.specs.Neighbours.{bad_place}
use Rattle.checks.specs.declared.neighbours.Beside.{Beside}

-- where these tests are to say s: the refusal that they say; or they say none, and what is found has the line's shape
abbrev pub Found : {A : Type 0} → (A → Shape) → ℕ → List ℕ → Said → Result A Refusal → Type 0
Found shape z l s (Err r) = s ≡ refused (refusal_number r)
Found shape z l s (Ok a) = (s ≡ done) × (shape a ≡ shape_of z l)

-- refusals 1 and 4
abbrev pub LineChecked : ℕ → List ℕ → Result Shape Refusal → Type 0
LineChecked z l r =
    Found (λ w. w) z l (unless ((bad_line z l, 1) ∷ (bad_slots (line_slots z l), 4) ∷ []) done) r

-- refusals 1 to 4
abbrev pub SlotsChecked : {A : Type 0} → (A → Shape) → ℕ → List ℕ → ℕ → Bool → Result A Refusal → Type 0
SlotsChecked shape z l direction bad_number r =
    Found shape z l (unless ((bad_line z l, 1) ∷ slot_tests (line_slots z l) direction bad_number) done) r

-- refusals 1 to 6
abbrev pub ApplyingChecked : {A : Type 0} → (A → Shape) → ℕ → List ℕ → (direction s u index : ℕ) → Beside → Bool
    → Result A Refusal → Type 0
ApplyingChecked shape z l direction s u index beside bad_subtable r =
    Found shape z l
    (unless ((bad_line z l, 1)
    ∷ applying_tests (line_slots z l) direction s u (bad_place (length (line_slots z l)) index beside) bad_subtable) done)
    r
