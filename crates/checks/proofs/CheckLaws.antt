-- What the checks that calls share find, refused or none, as code reaches it and as a caller reads it. Assumes nothing.
use Rattle.std.specs.Prelude.{Err, Ok, Result}
use Rattle.std.specs.Prelude.{if◌then◌else◌}
use mathlib.Core.Path.{◌≡◌, refl, sym, ap, ◌∙◌}
use mathlib.Core.Bool.{Bool, true, false}
use mathlib.Core.List.{List, [], ◌∷◌}
use Prim.Native.Nat.{ℕ}
use Rattle.ints.proofs.TestLaws.{clash}
use Rattle.slots.specs.Checks.{bad_line}
use Rattle.slots.specs.code.Shape.{Fits}
use Rattle.slots.specs.Line.{line_slots, shape_of}
use Rattle.slots.specs.Slot.{known}
use Rattle.slots.specs.declared.shape.Shape.{Shape}
use Rattle.answers.specs.declared.Refusal.{Refusal}
use Rattle.slots.proofs.LineLaws.{known_size, length_slots, shapely}
use Rattle.answers.specs.Said.{done, refused, Said, unless}
use Rattle.checks.specs.code.Checked.{Found, SlotsChecked}
use Rattle.checks.specs.Arguments.{applying_tests, slot_tests}
use Rattle.checks.specs.Neighbours.{bad_place}
use Rattle.checks.specs.declared.neighbours.Beside.{Beside}
use Rattle.answers.specs.declared.Refusal.TheVariants.{Index}
use Rattle.answers.proofs.TestLaws.{go_on}
use Rattle.slots.specs.Slot.{Slot}
use lib.ListN.{length}
use Rattle.ints.specs.Scale.{bad_scale}

-- ---- what is known where the line is one, of the shape w, and nothing is refused of its slots
pub record Clear (z : ℕ) (l : List ℕ) (s : Said) (w : Shape) : Type 0 where
  pub good : bad_line z l ≡ false
  pub shape_is : w ≡ shape_of z l
  pub fits : Fits w l
  pub size_known : known w.size ≡ true
  pub none : s ≡ done

pub clear : {A : Type 0} (shape : A → Shape) (z : ℕ) (l : List ℕ) (s : Said) (a : A) {x : Result A Refusal} → x ≡ Ok a → Found shape z l (unless ((bad_line z l, 1) ∷ []) s) x → Clear z l s (shape a)
clear shape z l s a e found = go (bad_line z l) refl (rw e at found)
  where
    go : (m : Bool) → bad_line z l ≡ m → ((if m then refused 1 else s) ≡ done) × (shape a ≡ shape_of z l) → Clear z l s (shape a)
    go true is f = clash (cc f.0)
    go false is f =
        record {
          good = is;
          shape_is = f.1;
          fits = rw f.1 (shapely z l is);
          size_known = ap (λ (v : Shape). known v.size) f.1 ∙ known_size z l is;
          none = f.0;
        }

-- ---- refusals 5 and 6, once refusals 1 to 4 are none: w is the shape of the line, and p what the test of the place answered
module _ (z : ℕ) (l : List ℕ) (direction s u index : ℕ) (beside : Beside) (bad : Bool) (w : Shape) (found : SlotsChecked (λ (v : Shape). v) z l direction (bad_scale s u) (Ok w))
    (p : Result (Unit {0}) Refusal) (placed : p ≡ (if bad_place w.count index beside then Err Index else Ok tt)) where
  abbrev ss : List Slot
  ss = line_slots z l

  abbrev told : Said
  told = unless ((bad_line z l, 1) ∷ applying_tests ss direction s u (bad_place (length ss) index beside) bad) done

  long : length ss ≡ w.count
  long = length_slots (shape_of z l) l ∙ sym (ap (λ (v : Shape). v.count) found.1)

  rest : (b : Bool) → bad_place w.count index beside ≡ b → told ≡ unless ((b, 5) ∷ (bad, 6) ∷ []) done
  rest b e =
      go_on ((bad_place (length ss) index beside, 5) ∷ (bad, 6) ∷ []) done ((bad_line z l, 1) ∷ slot_tests ss direction (bad_scale s u)) found.0
      ∙ ap (λ (n : ℕ). unless ((bad_place n index beside, 5) ∷ (bad, 6) ∷ []) done) long ∙ ap (λ (c : Bool). unless ((c, 5) ∷ (bad, 6) ∷ []) done) e

  tells : (b : Bool) → bad_place w.count index beside ≡ b → p ≡ (if b then Err Index else Ok tt)
  tells b e = placed ∙ ap (λ (c : Bool). if c then Err Index else Ok tt) e

  pub bad_index : (r : Refusal) → p ≡ Err r → (r ≡ Index) × (told ≡ refused 5)
  bad_index r is = go (bad_place w.count index beside) refl
    where
      go : (b : Bool) → bad_place w.count index beside ≡ b → (r ≡ Index) × (told ≡ refused 5)
      go true e = let same : Err r ≡ Err Index = sym is ∙ tells true e in (cc same, rest true e)
      go false e = clash (cc (is, tells false e))

  pub follows : (a : Unit {0}) → p ≡ Ok a → told ≡ unless ((bad, 6) ∷ []) done
  follows a is = go (bad_place w.count index beside) refl
    where
      go : (b : Bool) → bad_place w.count index beside ≡ b → told ≡ unless ((bad, 6) ∷ []) done
      go true e = clash (cc (is, tells true e))
      go false e = rest false e
