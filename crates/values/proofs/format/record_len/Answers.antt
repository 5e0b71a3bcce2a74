-- The bits of a format are eight, counted one by one. Assumes nothing.
use mathlib.Core.Path.{◌≡◌, ap}
use Prim.Native.Nat.{ℕ, ◌*◌, ◌%◌, ◌^◌}
use native.Mathlib.Omega.{arith}
use lib.Count.{ones}
use Rattle.values.specs.Format.{record_length}
use Rattle.values.proofs.FormatLaws.{length_small, ones_below}
use Rattle.values.proofs.format.record_len.Goals as goal

pub returns : goal.returns
returns c =
    let f = c.args.format in
    let e : f % 2 ^ 8 ≡ f = omega arith in
    let q : 2 * ones f ≡ record_length f = ap (λ (n : ℕ). 2 * n) (rw e at (ones_below 8 f)) in
    (q, omega (arith, length_small f))
