-- What is known once the tests of a line's slots do not hold. Assumes nothing.
use mathlib.Core.Path.{◌≡◌}
use mathlib.Core.Bool.{false, ◌||◌}
use Prim.Native.Nat.{ℕ}
use borrow.Author.Tests.{ltb-false}
use lib.Dec.{ltb}
use Rattle.ints.specs.code.Scale.{InScale}
use Rattle.ints.proofs.TestLaws.{or_false}
use Rattle.ints.specs.Scale.{bad_scale}

-- the scale is in its range
pub in_scale : (s u : ℕ) → bad_scale s u ≡ false → InScale s u
in_scale s u e =
    let a = or_false (ltb s 1) (ltb 32768 s || (ltb u 16 || ltb 16384 u)) e in
    let b = or_false (ltb 32768 s) (ltb u 16 || ltb 16384 u) a.1 in
    let c = or_false (ltb u 16) (ltb 16384 u) b.1 in
    record { s_low = ltb-false s 1 a.0; s_high = ltb-false 32768 s b.0; u_low = ltb-false u 16 c.0; u_high = ltb-false 16384 u c.1 }
