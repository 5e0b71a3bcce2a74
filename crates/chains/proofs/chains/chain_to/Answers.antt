-- `chains::chains::chain_to` meets its contract: a distance that fits 16 bits is the chain, forward or back, and any other gives 0. Assumes nothing.
use mathlib.Core.Logic.{inl, inr}
use mathlib.Core.Path.{◌≡◌}
use Prim.Native.Nat.{◌-◌}
use native.Mathlib.Omega.{arith}
use Rattle.chains.proofs.ChainsLaws.{chain_before, chain_far, chain_on}
use Rattle.chains.proofs.chains.chain_to.Goals as goal

pub returns-then-n-lt-CHAIN_LIMIT : goal.returns-then-n-lt-CHAIN_LIMIT
returns-then-n-lt-CHAIN_LIMIT c = let a = c.args in chain_on a.child a.parent (omega arith) (omega arith)

pub returns-then-child-parent : goal.returns-then-child-parent
returns-then-child-parent c = let a = c.args in chain_far a.child a.parent (inl (omega arith))

pub returns-then-n-le-CHAIN_LIMIT : goal.returns-then-n-le-CHAIN_LIMIT
returns-then-n-le-CHAIN_LIMIT c =
    let a = c.args in
    let bits : c.wrapping_neg.result ≡ 4294967296 - (a.child - a.parent) = omega arith in
    rw bits (chain_before a.child a.parent (omega arith) (omega arith))

pub returns : goal.returns
returns c = let a = c.args in chain_far a.child a.parent (inr (omega arith))
