-- A loop that changes each slot in turn by f: the first i slots are done. Assumes nothing.
use mathlib.Core.Path.{◌≡◌, refl, ap}
use mathlib.Core.List.{List, [], ◌∷◌, map}
use Prim.Native.Nat.{ℕ, zero, suc, ◌+◌, ◌<◌}
use native.Mathlib.Omega.{arith}
use native.Mathlib.Numerals.{add-one}
use lib.ListN.{length}
use Rattle.slots.specs.Slot.{Slot}
use Rattle.slots.specs.Line.{update}

-- the first i slots changed
abbrev pub map_to : (Slot → Slot) → ℕ → List Slot → List Slot
map_to f zero l = l
map_to f (suc i) [] = []
map_to f (suc i) (x ∷ l) = f x ∷ map_to f i l

-- one slot more
map_to_suc : (f : Slot → Slot) (i : ℕ) (l : List Slot) → i < length l → update i f (map_to f i l) ≡ map_to f (suc i) l
unfolding update
map_to_suc f i [] h = absurd (omega arith)
map_to_suc f zero (x ∷ l) h = refl
map_to_suc f (suc i) (x ∷ l) h = ap (λ (t : List Slot). f x ∷ t) (map_to_suc f i l (omega arith))

pub map_to_more : (f : Slot → Slot) (i : ℕ) (l : List Slot) → i < length l → update i f (map_to f i l) ≡ map_to f (i + 1) l
map_to_more f i l h = rw add-one (map_to_suc f i l h)

-- all of them
pub map_to_all : (f : Slot → Slot) (l : List Slot) → map_to f (length l) l ≡ map f l
map_to_all f [] = refl
map_to_all f (x ∷ l) = ap (λ (t : List Slot). f x ∷ t) (map_to_all f l)
