-- A number of 16 bits, raised by 2 ^ 15. Assumes nothing.
use mathlib.Core.Path.{◌≡◌}
use Prim.Native.Nat.{◌+◌, ◌%◌}
use native.Mathlib.Omega.{arith}
use Rattle.slots.specs.code.Fields.{swapped}
use Rattle.slots.proofs.ChainLaws.{raised_chain}
use Rattle.slots.proofs.parent.raised.Goals as goal

pub returns : goal.returns
returns c =
    let e : c.from.result ≡ (swapped c.args.bytes + 32768) % 65536 = omega arith in
    (rw e (raised_chain (swapped c.args.bytes) (omega arith)), omega arith)
