-- The digits that are still to write, and then those that are written, are the k digits of n. Assumes nothing.
use mathlib.Core.Path.{◌≡◌, ap, ◌∙◌}
use mathlib.Core.List.{◌++◌}
use Prim.Native.Nat.{ℕ}
use native.Mathlib.Omega.{arith}
use lib.ListN.{length-set}
use lib.Seq.{slice}
use Rattle.show.specs.Digits.{last_digits}
use Rattle.show.proofs.DigitLaws.{moved}
use Rattle.show.proofs.numbers.put_digits.Goals as goal

pub loop-i-preserved : goal.loop-i-preserved
loop-i-preserved c =
    let l = c.loop-i in
    let a = c.args in (
      simp length-set l.invariant.0,
      omega arith,
      moved l.i a.k l.rest c.glyph.result l.out c.loop-i-test.true l.invariant.1 (omega arith) c.glyph.ensures ∙ l.invariant.2,
    )

pub returns : goal.returns
returns c =
    let l = c.loop-i in
    let a = c.args in
    let none : 0 ≡ l.i = omega arith in
    ap (λ (i : ℕ). last_digits 10 i l.rest ++ slice i a.k l.out) none ∙ l.invariant.2
