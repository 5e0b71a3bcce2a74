-- Worked values: the loop of the worked sums, and what is easy to get wrong with what marks hang on, at lines and a
-- subtable that are written out. They compute. Assumes nothing.
use Rattle.std.specs.Prelude.{None, Some}
use mathlib.Core.Path.{◌≡◌, refl}
use mathlib.Core.Bool.{true, false}
use mathlib.Core.List.{List, [], ◌∷◌, map}
use Prim.Native.Nat.{ℕ, ◌%◌}
use native.Mathlib.Omega.{arith}
use lib.Dec.{eqb}
use lib.IntN.{ℤ, pos, negsuc}
use Rattle.ints.proofs.Examples.{words}
use Rattle.ints.specs.BigEndian.{nat_at}
use Rattle.ints.specs.Saturating.{clamp32}
use Rattle.ints.specs.Tally.{nearest}
use Rattle.slots.specs.Slot.{Slot}
use Rattle.slots.specs.Parent.{parent}
use Rattle.slots.specs.declared.axis.Axis.TheVariants.{X, Y}
use Rattle.tables.specs.Spans.{first_holding, span_at, spans_from}
use Rattle.targets.specs.Component.{component_index}
use Rattle.targets.specs.MarkPos.{base_index}
use Rattle.targets.specs.Search.{accepted, stops_at}
use Rattle.targets.specs.Walk.{cross_offset, cross_offset_in}
use Rattle.targets.specs.theorems.Endless.{Endless}
use Rattle.targets.specs.declared.mark_pos.Target.TheVariants.{Base, Ligature}
use Rattle.targets.proofs.WalkLaws.{refused_never}

-- a slot, by glyph, ligature id, component, flags, type, chain and y offset
abbrev pub glyph_at : ℕ → ℕ → ℕ → ℕ → ℕ → ℤ → ℤ → Slot
glyph_at g i c f t n y =
    record {
      glyph = g;
      ligature_id = i;
      component = c;
      flags = f;
      attach_type = t;
      chain = n;
      x_advance = pos 600;
      y_advance = pos 0;
      x_offset = pos 0;
      y_offset = y;
      cluster = 0;
    }

-- a slot of a ligature with this id, or a mark of one, at this component
abbrev pub part : ℕ → ℕ → Slot
part i c = glyph_at 9 i c 1 0 (pos 0) (pos 0)

-- a slot with this type, chain and y offset
abbrev hanging : ℕ → ℤ → ℤ → Slot
hanging t n y = glyph_at 5 0 0 1 t n y

-- the loop of the worked sums: slots 0 and 1 are cursive and hang on each other; the mark, which the search doesn't see, is slot 2
abbrev pub loop : List Slot
loop = hanging 2 (pos 1) (pos 5) ∷ hanging 2 (negsuc 0) (pos 7) ∷ glyph_at 9 0 0 2 0 (pos 0) (pos 0) ∷ []

-- slot 2 hangs on 1 and 1 on 0, which has another type; the first sum goes past 32 bits, the second comes back from there
abbrev hops : List Slot
hops = hanging 1 (pos 1) (negsuc 4) ∷ hanging 2 (negsuc 0) (pos 1) ∷ hanging 3 (negsuc 0) (pos 2147483647) ∷ []

-- two glyphs of a multiple substitution, a mark, and the third glyph; all seen
abbrev broken : List Slot
broken = glyph_at 5 4 0 5 0 (pos 0) (pos 0) ∷ glyph_at 6 4 1 5 0 (pos 0) (pos 0) ∷ glyph_at 9 4 1 7 0 (pos 0) (pos 0) ∷ glyph_at 7 4 2 5 0 (pos 0) (pos 0) ∷ []

-- a base that is seen, one that is not, and a mark, whose offsets are replaced
abbrev pub plain : List Slot
plain = glyph_at 5 0 0 1 0 (pos 0) (pos 30) ∷ glyph_at 5 0 0 0 0 (pos 0) (pos 0) ∷ glyph_at 9 0 0 2 0 (pos 0) (pos 99) ∷ []

-- a subtable: glyph 9 is a mark with the anchor (10, 20); glyph 5 is a base, its anchor (100, 200) at this offset of the base array; one class
abbrev pub subtable : ℕ → List ℕ
subtable off =
    words (1 ∷ 12 ∷ 18 ∷ 1 ∷ 24 ∷ 36 ∷ 1 ∷ 1 ∷ 9 ∷ 1 ∷ 1 ∷ 5 ∷ 1 ∷ 0 ∷ 6 ∷ 1 ∷ 10 ∷ 20 ∷ 1 ∷ off ∷ 1 ∷ 100 ∷ 200 ∷ [])

pub record Worked : Type 0 where
  -- three components: with other ids, and with ids that are 0, the last
  pub other_ids : map (λ (i : ℕ). component_index 3 (part 4 2) (part i 0)) (4 ∷ 5 ∷ 0 ∷ []) ≡ (1 ∷ 2 ∷ 2 ∷ [])
  pub no_ids : component_index 3 (part 0 2) (part 0 0) ≡ 2
  -- the loop: the walk of slot 1 never ends, on either axis; that of the mark ends at once
  pub endless_walk : (cross_offset Y loop 1 ≡ None) × (cross_offset X loop 1 ≡ None) × (cross_offset Y loop 2 ≡ Some (pos 0))
  -- and so, by the law of the walk, for every number of steps it has not ended
  pub never : Endless loop 1
  -- two hops, by the cursive bit of types 2 and 3: it saturates step by step, from the slot outward
  pub two_hops : map (cross_offset Y hops) (0 ∷ 1 ∷ 2 ∷ []) ≡ (Some (negsuc 4) ∷ Some (negsuc 3) ∷ Some (pos 2147483642) ∷ [])
  -- a parent outside the line ends it
  pub outside : (cross_offset Y (hanging 2 (negsuc 0) (pos 5) ∷ []) 0 ≡ Some (pos 5)) × (cross_offset Y (hanging 2 (pos 1) (pos 5) ∷ []) 0 ≡ Some (pos 5))
  -- the nearest number that passes, and none
  pub nearest_is : map (nearest (λ (k : ℕ). eqb (k % 3) 0)) (6 ∷ 4 ∷ 3 ∷ 0 ∷ []) ≡ (Some 3 ∷ Some 3 ∷ Some 0 ∷ None ∷ [])
  -- of a multiple substitution the first glyph is accepted, and the one after the mark that breaks it; as a ligature only the first
  pub base_accepted : map (accepted Base broken) (0 ∷ 1 ∷ 3 ∷ []) ≡ (true ∷ false ∷ true ∷ [])
  pub ligature_accepted : map (accepted Ligature broken) (0 ∷ 1 ∷ 3 ∷ []) ≡ (true ∷ false ∷ false ∷ [])
  -- the search passes what is not seen; what is seen and not accepted it takes if it is covered
  pub stops : (map (stops_at Base (subtable 4) plain) (0 ∷ 1 ∷ []) ≡ (true ∷ false ∷ [])) × (stops_at Base (subtable 4) broken 1 ≡ false)
  pub stops_covered : stops_at Ligature (subtable 4) (part 0 0 ∷ glyph_at 5 4 1 5 0 (pos 0) (pos 0) ∷ []) 1 ≡ true

pub worked : Worked
unfolding first_holding span_at spans_from nat_at clamp32 parent base_index nearest stops_at cross_offset cross_offset_in
worked = record {
  other_ids = refl;
  no_ids = refl;
  endless_walk = (refl, refl, refl);
  never = refused_never loop Y 1 (omega arith) refl;
  two_hops = refl;
  outside = (refl, refl);
  nearest_is = refl;
  base_accepted = refl;
  ligature_accepted = refl;
  stops = (refl, refl);
  stops_covered = refl;
}

-- ---- at the ends
pub record Ends : Type 0 where
  -- a multiplied glyph with a component above 0 in slot 0 is accepted as a base, not as a ligature
  pub first_slot : (accepted Base (glyph_at 5 4 3 5 0 (pos 0) (pos 0) ∷ []) 0 ≡ true) × (accepted Ligature (glyph_at 5 4 3 5 0 (pos 0) (pos 0) ∷ []) 0 ≡ false)
  -- of the type the walk tests the cursive bit alone: 254 has it, 253 has not
  pub by_bit : map (λ (t : ℕ). cross_offset Y (hanging 0 (pos 0) (pos 5) ∷ hanging t (negsuc 0) (pos 7) ∷ []) 1) (254 ∷ 253 ∷ []) ≡ (Some (pos 12) ∷ Some (pos 7) ∷ [])
  -- a tail that leads into the loop never ends either; by type 1 it is not followed
  pub tail : map (λ (t : ℕ). cross_offset Y (hanging 2 (pos 1) (pos 5) ∷ hanging 2 (negsuc 0) (pos 7) ∷ hanging t (negsuc 0) (pos 9) ∷ []) 2) (2 ∷ 1 ∷ []) ≡ (None ∷ Some (pos 9) ∷ [])

pub ends : Ends
unfolding clamp32 parent cross_offset cross_offset_in
ends = record {
  first_slot = (refl, refl);
  by_bit = refl;
  tail = refl;
}
