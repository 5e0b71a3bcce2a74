-- Texts of numbers, and a row of the finishing program's example, worked out. Assumes nothing.
use mathlib.Core.Path.{refl}
use mathlib.Core.List.{[], ◌∷◌}
use native.Mathlib.Omega.{arith}
use lib.IntN.{pos, negsuc}
use Rattle.slots.specs.Slot.{no_slot}
use Rattle.slots.specs.Fields.{with_place}
use Rattle.show.specs.Text.{end, Row, Spelled, then}

-- 0 is one digit
zero : Spelled (pos 0) (48 ∷ [])
zero = record { places = 1; fewest = omega arith; digits_are = refl }

-- 7, and -1
seven : Spelled (pos 7) (55 ∷ [])
seven = record { places = 1; fewest = omega arith; digits_are = refl }

less_one : Spelled (negsuc 0) (45 ∷ 49 ∷ [])
less_one = record { places = 1; fewest = omega arith; digits_are = refl }

-- 2147483647 and -2147483648, the largest and the least of 32 bits
largest : Spelled (pos 2147483647) (50 ∷ 49 ∷ 52 ∷ 55 ∷ 52 ∷ 56 ∷ 51 ∷ 54 ∷ 52 ∷ 55 ∷ [])
largest = record { places = 10; fewest = omega arith; digits_are = refl }

least : Spelled (negsuc 2147483647) (45 ∷ 50 ∷ 49 ∷ 52 ∷ 55 ∷ 52 ∷ 56 ∷ 51 ∷ 54 ∷ 52 ∷ 56 ∷ [])
least = record { places = 10; fewest = omega arith; digits_are = refl }

-- the row `1 0 0 -350 40`
one : Spelled (pos 1) (49 ∷ [])
one = record { places = 1; fewest = omega arith; digits_are = refl }

less_350 : Spelled (negsuc 349) (45 ∷ 51 ∷ 53 ∷ 48 ∷ [])
less_350 = record { places = 3; fewest = omega arith; digits_are = refl }

forty : Spelled (pos 40) (52 ∷ 48 ∷ [])
forty = record { places = 2; fewest = omega arith; digits_are = refl }

row_one : Row 1 (with_place (pos 0) (pos 0) (negsuc 349) (pos 40) no_slot) (49 ∷ 32 ∷ 48 ∷ 32 ∷ 48 ∷ 32 ∷ 45 ∷ 51 ∷ 53 ∷ 48 ∷ 32 ∷ 52 ∷ 48 ∷ 10 ∷ [])
row_one =
    then (record { added = 49 ∷ []; spelled = one; grown = refl })
    (then (record { added = 48 ∷ []; spelled = zero; grown = refl })
    (then (record { added = 48 ∷ []; spelled = zero; grown = refl })
    (then (record { added = 45 ∷ 51 ∷ 53 ∷ 48 ∷ []; spelled = less_350; grown = refl })
    (then (record { added = 52 ∷ 48 ∷ []; spelled = forty; grown = refl }) end))))
