-- An answer is told by what it says. Assumes nothing.
use Rattle.std.specs.Prelude.{if◌then◌else◌}
use mathlib.Core.Path.{◌≡◌, refl, sym, ap, ◌∙◌}
use mathlib.Core.List.{List, [], ◌∷◌}
use Prim.Native.Nat.{ℕ, ◌+◌}
use borrow.Author.Tests.{eq-eqb, ne_eqb}
use native.Mathlib.Omega.{arith}
use lib.Dec.{eqb}
use Rattle.answers.specs.Said.{Range, unsafe_to_break, unsafe_to_concat, Said, applied, declined, refused, done, range, ranges, refusal_number, said, said_done, said_moved, said_run, wider_number, SaidRun, ran, stopped, not_run}
use Rattle.answers.specs.declared.HazardKind.{HazardKind}
use Rattle.answers.specs.declared.HazardKind.TheVariants.{UnsafeToBreak, UnsafeToConcat}
use Rattle.answers.specs.declared.Hazard.{Hazard}
use Rattle.answers.specs.declared.UpToTwo.{UpToTwo}
use Rattle.answers.specs.declared.UpToTwo.TheVariants.{None, One, Two}
use Rattle.answers.specs.declared.Refusal.{Refusal}
use Rattle.answers.specs.declared.Refusal.TheVariants.{Line, Direction, Number, Slot, Index, Subtable, Endless}
use Rattle.answers.specs.declared.WiderRefusal.{WiderRefusal}
use Rattle.answers.specs.declared.WiderRefusal.TheVariants.{Shared, Unfit}
use Rattle.answers.specs.declared.Answer.{Answer}
use Rattle.answers.specs.declared.Answer.TheVariants.{Applied, Declined}
use Rattle.answers.specs.declared.Ran.{Ran}
use Rattle.answers.specs.declared.Ran.TheVariants.{Done as RanToEnd, Endless as RanInto7}
use Rattle.std.specs.Prelude.{Result, Ok, Err}

-- back from what was said to the answer
abbrev refusal_of : ℕ → Refusal
refusal_of n =
    if eqb n 1 then Line
    else (if eqb n 2 then Direction
    else (if eqb n 3 then Number
    else (if eqb n 4 then Slot
    else (if eqb n 5 then Index
    else (if eqb n 6 then Subtable
    else Endless)))))

abbrev hazard : Range → Hazard
hazard (unsafe_to_break s e) = record { kind = UnsafeToBreak; start = s; end = e }
hazard (unsafe_to_concat s e) = record { kind = UnsafeToConcat; start = s; end = e }

abbrev hazards : List Range → UpToTwo Hazard
hazards [] = None
hazards (r ∷ []) = One (hazard r)
hazards (r ∷ q ∷ rs) = Two (hazard r) (hazard q)

abbrev unsaid : Said → Result Answer Refusal
unsaid (applied n rs a) = Ok (Applied n (hazards rs) a)
unsaid (declined rs) = Ok (Declined (hazards rs))
unsaid (refused n) = Err (refusal_of n)
unsaid done = Ok (Declined None)

abbrev unsaid_done : Said → Result (Unit {0}) Refusal
unsaid_done (refused n) = Err (refusal_of n)
unsaid_done (applied n rs a) = Ok tt
unsaid_done (declined rs) = Ok tt
unsaid_done done = Ok tt

-- of a call whose own refusal has the number own
abbrev wider_of : ℕ → ℕ → WiderRefusal
wider_of own n = if eqb n own then Unfit else Shared (refusal_of n)

abbrev unsaid_moved : Said → Result (Unit {0}) WiderRefusal
unsaid_moved (refused n) = Err (wider_of 10 n)
unsaid_moved (applied n rs a) = Ok tt
unsaid_moved (declined rs) = Ok tt
unsaid_moved done = Ok tt

abbrev unsaid_run : SaidRun → Result Ran WiderRefusal
unsaid_run (ran n a) = Ok (RanToEnd n a)
unsaid_run (stopped i n) = Ok (RanInto7 i n)
unsaid_run (not_run n) = Err (wider_of 8 n)

refusal_back : (r : Refusal) → refusal_of (refusal_number r) ≡ r
refusal_back Line = refl
refusal_back Direction = refl
refusal_back Number = refl
refusal_back Slot = refl
refusal_back Index = refl
refusal_back Subtable = refl
refusal_back Endless = refl

hazard_back : (h : Hazard) → hazard (range h) ≡ h
hazard_back h = go h.kind refl
  where
    go : (k : HazardKind) → h.kind ≡ k → hazard (range h) ≡ h
    go UnsafeToBreak e = rw e
    go UnsafeToConcat e = rw e

hazards_back : (hs : UpToTwo Hazard) → hazards (ranges hs) ≡ hs
hazards_back None = refl
hazards_back (One h) = ap One (hazard_back h)
hazards_back (Two h g) = cc (hazard_back h, hazard_back g)

-- the numbers of the shared refusals are below any other
wider_back : (k : ℕ) (w : WiderRefusal) → wider_of (8 + k) (wider_number (8 + k) w) ≡ w
wider_back k (Shared Line) = rw (ne_eqb 1 (8 + k) (λ e. omega arith))
wider_back k (Shared Direction) = rw (ne_eqb 2 (8 + k) (λ e. omega arith))
wider_back k (Shared Number) = rw (ne_eqb 3 (8 + k) (λ e. omega arith))
wider_back k (Shared Slot) = rw (ne_eqb 4 (8 + k) (λ e. omega arith))
wider_back k (Shared Index) = rw (ne_eqb 5 (8 + k) (λ e. omega arith))
wider_back k (Shared Subtable) = rw (ne_eqb 6 (8 + k) (λ e. omega arith))
wider_back k (Shared Endless) = rw (ne_eqb 7 (8 + k) (λ e. omega arith))
wider_back k Unfit = rw (eq-eqb (8 + k) (8 + k) refl)

said_back : (r : Result Answer Refusal) → unsaid (said r) ≡ r
said_back (Ok (Applied n hs a)) = ap (λ x. Ok (Applied n x a)) (hazards_back hs)
said_back (Ok (Declined hs)) = ap (λ x. Ok (Declined x)) (hazards_back hs)
said_back (Err r) = ap Err (refusal_back r)

said_done_back : (r : Result (Unit {0}) Refusal) → unsaid_done (said_done r) ≡ r
said_done_back (Ok _) = refl
said_done_back (Err r) = ap Err (refusal_back r)

said_moved_back : (r : Result (Unit {0}) WiderRefusal) → unsaid_moved (said_moved r) ≡ r
said_moved_back (Ok _) = refl
said_moved_back (Err w) = ap Err (wider_back 2 w)

said_run_back : (r : Result Ran WiderRefusal) → unsaid_run (said_run r) ≡ r
said_run_back (Ok (RanToEnd n a)) = refl
said_run_back (Ok (RanInto7 i n)) = refl
said_run_back (Err w) = ap Err (wider_back 0 w)

-- what can be told from its image is the same where its image is
from_back : {A B : Type 0} (f : A → B) (g : B → A) → ((x : A) → g (f x) ≡ x) → (x y : A) → f x ≡ f y → x ≡ y
from_back f g back x y e = sym (back x) ∙ ap g e ∙ back y

-- so two answers that say the same are the same
pub said_same : (r q : Result Answer Refusal) → said r ≡ said q → r ≡ q
said_same = from_back said unsaid said_back

pub said_done_same : (r q : Result (Unit {0}) Refusal) → said_done r ≡ said_done q → r ≡ q
said_done_same = from_back said_done unsaid_done said_done_back

pub said_moved_same : (r q : Result (Unit {0}) WiderRefusal) → said_moved r ≡ said_moved q → r ≡ q
said_moved_same = from_back said_moved unsaid_moved said_moved_back

pub said_run_same : (r q : Result Ran WiderRefusal) → said_run r ≡ said_run q → r ≡ q
said_run_same = from_back said_run unsaid_run said_run_back
