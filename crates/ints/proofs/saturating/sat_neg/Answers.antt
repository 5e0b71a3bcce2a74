-- The library's negation. Assumes nothing.
use mathlib.Core.Path.{◌∙◌}
use native.Mathlib.Omega.{arith}
use lib.IntN.{neg_ℤ}
use Rattle.ints.specs.code.Signed.{val}
use Rattle.ints.proofs.SaturatingLaws.{saturated}
use Rattle.ints.proofs.SignedLaws.{passed, returned}
use Rattle.ints.proofs.saturating.sat_neg.Goals as goal

pub returns : goal.returns
returns c =
    let a = passed c.cast_signed.result c.args.a (omega arith) c.cast_signed.ensures in
    returned c.cast_unsigned.result c.saturating_neg.result (omega arith) c.cast_unsigned.ensures
    ∙ c.saturating_neg.ensures
    ∙ rw a (saturated (neg_ℤ (val c.args.a)))
