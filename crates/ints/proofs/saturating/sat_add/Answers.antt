-- The library's sum. Assumes nothing.
use mathlib.Core.Path.{◌∙◌}
use native.Mathlib.Omega.{arith}
use lib.IntN.{◌+ℤ◌}
use Rattle.ints.specs.code.Signed.{val}
use Rattle.ints.proofs.SaturatingLaws.{saturated}
use Rattle.ints.proofs.SignedLaws.{passed, returned}
use Rattle.ints.proofs.saturating.sat_add.Goals as goal

pub returns : goal.returns
returns c =
    let a = passed c.cast_signed.result c.args.a (omega arith) c.cast_signed.ensures in
    let b = passed c.cast_signed-2.result c.args.b (omega arith) c.cast_signed-2.ensures in
    returned c.cast_unsigned.result c.saturating_add.result (omega arith) c.cast_unsigned.ensures
    ∙ c.saturating_add.ensures
    ∙ rw (a, b) (saturated (val c.args.a +ℤ val c.args.b))
