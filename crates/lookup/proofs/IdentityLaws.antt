-- What two lines share whose slots are the same, wherever they are and whatever they hang on. Assumes nothing.
use mathlib.Core.Bool.{Bool, false, not, ◌&&◌, ◌||◌}
use mathlib.Core.List.{List, [], ◌∷◌}
use mathlib.Core.Path.{◌≡◌, refl, sym, ap, ap₂, fun_ext, ◌∙◌}
use Prim.Native.Nat.{ℕ, ◌-◌}
use lib.Dec.{eqb}
use lib.ListN.{get_or, length, length-map, get_or-map}
use Rattle.ints.specs.Tally.{nearest}
use Rattle.slots.specs.Slot.{no_slot, Slot}
use Rattle.slots.specs.Line.{slot}
use Rattle.slots.specs.Fields.{flag_of, with_identity}
use Rattle.slots.specs.theorems.Identity.{identities, identity}
use Rattle.slots.specs.declared.fields.Flag.{Flag}
use Rattle.slots.specs.declared.fields.Flag.TheVariants.{Seen}
use Rattle.checks.specs.Ranges.{bad_slot, bad_slots, some}
use Rattle.targets.specs.MarkPos.{base_index}
use Rattle.targets.specs.Search.{goes_on, is_covered, is_first, stops_at}
use Rattle.targets.specs.declared.mark_pos.Target.{Target}
use Rattle.targets.specs.declared.mark_pos.Target.TheVariants.{Base, Ligature}

-- the nearest number that passes is that of a test that agrees
pub nearest_same : (p q : ℕ → Bool) → ((i : ℕ) → p i ≡ q i) → (n : ℕ) → nearest p n ≡ nearest q n
nearest_same p q h n = ap (λ (r : ℕ → Bool). nearest r n) (fun_ext h)

-- a slot that is the same, at no place and hung on nothing
abbrev bare : ℕ × ℕ × ℕ × ℕ → Slot
bare (g, i, c, f) = with_identity g i c f no_slot

-- does one of these pass the test?
abbrev some_of : (Slot → Bool) → List (ℕ × ℕ × ℕ × ℕ) → Bool
some_of p [] = false
some_of p (x ∷ xs) = p (bare x) || some_of p xs

-- whether a slot is out of range is seen by what it is
bad_by_identity : (ss : List Slot) → bad_slots ss ≡ some_of bad_slot (identities ss)
unfolding some
bad_by_identity [] = refl
bad_by_identity (s ∷ ss) = ap (λ (b : Bool). bad_slot s || b) (bad_by_identity ss)

module _ (ss ss' : List Slot) (e : identities ss ≡ identities ss') where
  -- they are as many
  pub same_length : length ss ≡ length ss'
  same_length = sym (length-map ss identity) ∙ ap length e ∙ length-map ss' identity

  -- slot by slot, outside the line too
  pub same_identity : (i : ℕ) → identity (slot ss i) ≡ identity (slot ss' i)
  same_identity i =
      sym (get_or-map identity ss i no_slot) ∙ ap (λ (l : List (ℕ × ℕ × ℕ × ℕ)). get_or l i (identity no_slot)) e ∙ get_or-map identity ss' i no_slot

  -- so what is read of what a slot is, is the same
  same_bare : (i : ℕ) → bare (identity (slot ss i)) ≡ bare (identity (slot ss' i))
  same_bare i = ap bare (same_identity i)

  -- its glyph
  pub same_glyph : (i : ℕ) → (slot ss i).glyph ≡ (slot ss' i).glyph
  same_glyph i = ap (λ (s : Slot). s.glyph) (same_bare i)

  -- its flags
  pub same_flag : (f : Flag) (i : ℕ) → flag_of f (slot ss i) ≡ flag_of f (slot ss' i)
  same_flag f i = ap (flag_of f) (same_bare i)

  -- whether the search stops there
  pub same_stops : (target : Target) (t : List ℕ) (i : ℕ) → stops_at target t ss i ≡ stops_at target t ss' i
  unfolding stops_at
  same_stops Base t i =
      ap₂ (λ (p s : Slot). flag_of Seen s && ((is_first s || (eqb i 0 || not (goes_on p s))) || is_covered (base_index t s.glyph)))
      (same_bare (i - 1)) (same_bare i)
  same_stops Ligature t i = ap (λ (s : Slot). flag_of Seen s && (is_first s || is_covered (base_index t s.glyph))) (same_bare i)

  -- whether some slot is out of range
  pub same_bad : bad_slots ss ≡ bad_slots ss'
  same_bad = bad_by_identity ss ∙ ap (some_of bad_slot) e ∙ sym (bad_by_identity ss')
