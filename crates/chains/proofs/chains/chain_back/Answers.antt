-- `chains::chains::chain_back` meets its contract: of 16 bits only the least number has no negation, and no other saturates. Assumes nothing.
use native.Mathlib.Omega.{arith}
use Rattle.chains.proofs.ChainsLaws.{back_least, back_other}
use Rattle.chains.proofs.chains.chain_back.Goals as goal

pub returns-then-chain-eq-LEAST_CHAIN : goal.returns-then-chain-eq-LEAST_CHAIN
returns-then-chain-eq-LEAST_CHAIN c = rw c.if-chain-eq-LEAST_CHAIN.true back_least

pub returns : goal.returns
returns c =
    let a = c.args in
    back_other a.chain c.sat_neg.result (omega arith) c.if-chain-eq-LEAST_CHAIN.false c.requires c.sat_neg.ensures
