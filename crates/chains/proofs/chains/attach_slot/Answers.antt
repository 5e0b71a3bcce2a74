-- `chains::chains::attach_slot` meets its contract: three changes of one slot are one. Assumes nothing.
use native.Mathlib.Omega.{arith}
use Rattle.ints.specs.code.Signed.{val}
use Rattle.slots.specs.Line.{slots}
use Rattle.slots.proofs.LineLaws.{length_slots}
use Rattle.chains.proofs.ChainsLaws.{attached_by}
use Rattle.chains.proofs.chains.attach_slot.Goals as goal

pub returns : goal.returns
returns c =
    let k₃ = c in
    let k₂ = k₃ in
    let k₁ = k₂ in
    let s = k₁ in
    let a = s.args in
    attached_by a.i a.kind (val a.chain) a.a (val a.z) (slots a.shape a.line.now) (omega (arith, length_slots a.shape a.line.now, s.requires.0))
    k₁.set.ensures k₂.set_chain.ensures k₃.set_byte.ensures
