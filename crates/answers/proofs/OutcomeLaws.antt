-- An outcome leaves one answer and one line, and how a call reaches it. Assumes nothing.
use mathlib.Core.Path.{◌≡◌, sym, ap, ◌∙◌}
use mathlib.Core.Bool.{true, false}
use mathlib.Core.List.{List}
use Prim.Native.Nat.{ℕ}
use lib.ListN.{length}
use Rattle.ints.specs.BigEndian.{AllBytes}
use Rattle.slots.specs.Slot.{Slot}
use Rattle.slots.specs.Line.{bytes, line_slots, shape_of, slots}
use Rattle.slots.specs.code.Shape.{Fits}
use Rattle.slots.specs.Checks.{bad_line}
use Rattle.slots.specs.declared.shape.Shape.{Shape}
use Rattle.slots.proofs.LineLaws.{from_slots, kept_shape, known_size, same_slots, shapely}
use Rattle.answers.specs.Said.{Said, applied, declined, done, refused}
use Rattle.answers.specs.Outcome.{answer_to, Call, line_after, Made, Outcome}
use Rattle.answers.specs.code.Effect.{Effect, slots_after}

-- two results that meet the same contract are equal, answer and bytes, where an answer is told by what it says: `saying`
pub one_outcome : {A : Type 0} (saying : A → Said) → ((r q : A) → saying r ≡ saying q → r ≡ q)
    → (z : ℕ) (l : List ℕ) (s : Said) (ss : List Slot) (l₁ l₂ : List ℕ) (r₁ r₂ : A) → Outcome z l s ss (saying r₁) l₁ → Outcome z l s ss (saying r₂) l₂ → (r₁ ≡ r₂) × (l₁ ≡ l₂)
one_outcome saying tells z l s ss l₁ l₂ r₁ r₂ p q = (tells r₁ r₂ (p.answer ∙ sym q.answer), p.line ∙ sym q.line)

-- what slots a whole line has afterwards decides its bytes
pub changed : (z : ℕ) (l l' : List ℕ) (ss : List Slot) → bad_line z l ≡ false → AllBytes l' → length l' ≡ length l → slots (shape_of z l) l' ≡ ss → l' ≡ bytes z ss
changed z l l' ss w b n e = from_slots z (known_size z l w) l' ss (shapely z l' (rw n w)) b (kept_shape z l l' n ∙ e)

-- ---- from what is to be said, and the line, to the outcome
module _ (z : ℕ) (l : List ℕ) (s : Said) (ss : List Slot) where
  pub outcome_refused : (n : ℕ) → s ≡ refused n → Outcome z l s ss (refused n) l
  outcome_refused n e = record { answer = sym e; line = rw e }

  pub outcome_done : (l' : List ℕ) → s ≡ done → l' ≡ bytes z ss → Outcome z l s ss done l'
  outcome_done l' e b = record { answer = sym e; line = rw e b }

-- ---- the ways of a call: the line is no line of such slots
module _ (c : Call) (z : ℕ) (l : List ℕ) where
  pub made_nothing : bad_line z l ≡ true → Made c z l (refused 1) l
  made_nothing e = outcome_refused z l (answer_to c z l) (c.leaves (line_slots z l)) 1 (rw e)

  -- or it is one, and what is said of its slots is said
  module _ (whole : bad_line z l ≡ false) where
    answers_slots : answer_to c z l ≡ c.says (line_slots z l)
    answers_slots = rw whole

    -- what a core said and left of the slots of that shape
    pub made_by : {w : Shape} (l' : List ℕ) (given : Said) → w ≡ shape_of z l → AllBytes l → AllBytes l' → length l' ≡ length l
        → Effect (slots w l) (c.says (slots w l)) (c.leaves (slots w l)) given (slots w l') → Made c z l given l'
    made_by l' given is b b' n e = reach (rw is at e)
      where
        whole' : Fits (shape_of z l') l'
        whole' = shapely z l' (rw n whole)

        go : (s : Said) (new : List Slot) → line_slots z l' ≡ slots_after s (line_slots z l) new → l' ≡ line_after z s l new
        go (applied n hs a) new e = from_slots z (known_size z l whole) l' new whole' b' e
        go done new e = from_slots z (known_size z l whole) l' new whole' b' e
        go (declined hs) new e = same_slots z (known_size z l whole) l' l whole' (shapely z l whole) b' b e
        go (refused n) new e = same_slots z (known_size z l whole) l' l whole' (shapely z l whole) b' b e

        reach : Effect (line_slots z l) (c.says (line_slots z l)) (c.leaves (line_slots z l)) given (slots (shape_of z l) l') → Made c z l given l'
        reach e =
            let new = c.leaves (line_slots z l) in
            record {
              answer = e.answer ∙ sym answers_slots;
              line = go (c.says (line_slots z l)) new (kept_shape z l l' n ∙ e.slots_are) ∙ ap (λ (s : Said). line_after z s l new) (sym answers_slots);
            }
