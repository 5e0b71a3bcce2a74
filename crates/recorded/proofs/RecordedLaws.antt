-- What four bytes stand for. Assumes nothing.
use mathlib.Core.Path.{◌≡◌}
use mathlib.Core.List.{List}
use Prim.Native.Nat.{ℕ, ◌<◌}
use Rattle.ints.specs.BigEndian.{AllBytes, nat_at}
use Rattle.ints.specs.Signed.{int_at}
use Rattle.ints.specs.code.Signed.{val}
use Rattle.ints.proofs.BigEndianLaws.{nat_at_fits}
use Rattle.ints.proofs.SignedLaws.{signed_same}

-- two patterns of four bytes that stand for the same integer are the same
pub pattern_at : (l : List ℕ) (at r : ℕ) → AllBytes l → r < 4294967296 → val r ≡ int_at 4 l at → r ≡ nat_at 4 l at
unfolding int_at
pattern_at l at r b f e = signed_same 4 r (nat_at 4 l at) f (nat_at_fits 4 l at b) e
