-- `chains::reversal::reverse` meets its contract: each way through it is one equation of `reversed`, and a call that goes on has cleared an attached slot, so
-- that the number of attached slots falls. Assumes nothing.
use mathlib.Core.Path.{◌≡◌, sym, ◌∙◌}
use Prim.Native.Nat.{◌<◌}
use native.Mathlib.Omega.{arith}
use borrow.Author.Rules.{rules}
use lib.ListN.{length}
use Rattle.slots.specs.Line.{slots}
use Rattle.slots.specs.Parent.{parent}
use Rattle.slots.specs.declared.parent.Parent.TheVariants.{InLine}
use Rattle.slots.proofs.LineLaws.{length_slots}
use Rattle.slots.proofs.ParentLaws.{parent_in_line}
use Rattle.slots.proofs.ChainLaws.{zero_fits}
use Rattle.chains.proofs.ReversalLaws.{ends_new, ends_outside, falls_at, goes_on, reversed_free, stays_plain}
use Rattle.chains.proofs.reversal.+reverse.Goals as goal

pub returns-then-not-cursive_bit : goal.returns-then-not-cursive_bit
returns-then-not-cursive_bit t c =
    let a = c.args in
    stays_plain a.a (slots a.shape a.line.now) a.i a.p c.get_byte-kind.ensures (sym c.cursive_bit.ensures ∙ c.if-not-cursive_bit.true)

pub set_chain-requires : goal.set_chain-requires
set_chain-requires t c = (search rules, zero_fits)

pub set_chain-requires-in-InLine : goal.set_chain-requires-in-InLine
set_chain-requires-in-InLine t c = (search rules, zero_fits)

pub returns-then-j-p : goal.returns-then-j-p
returns-then-j-p t c =
    let a = c.args in
    let w = a.shape in
    let first = slots w a.line.now in
    ends_new a.a first a.i a.p c.get_byte-kind.ensures (omega (arith, length_slots w a.line.now, c.requires.below))
    (sym c.cursive_bit.ensures ∙ c.if-not-cursive_bit.false) c.set_chain-in-InLine.ensures c.in-InLine.j (sym c.parent_of.ensures ∙ c.in-InLine.is) c.if-j-p.true

pub reverse-requires : goal.reverse-requires
reverse-requires t c =
    let a = c.args in
    let w = a.shape in
    let first = slots w a.line.now in
    let parent_is : parent first a.i ≡ InLine c.in-InLine.j = sym c.parent_of.ensures ∙ c.in-InLine.is in
    let here : a.i < length first = omega (arith, length_slots w a.line.now, c.requires.below) in
    let there : c.in-InLine.j < a.shape.count = omega (arith, length_slots w a.line.now, parent_in_line first a.i c.in-InLine.j parent_is) in
    let less = falls_at a.a first a.i a.p c.get_byte-kind.ensures here
    (sym c.cursive_bit.ensures ∙ c.if-not-cursive_bit.false) c.set_chain-in-InLine.ensures c.in-InLine.j parent_is in
    let inside = c.requires.below in
    (omega (arith, c.decreases, less), search rules)

pub attach_slot-requires : goal.attach_slot-requires
attach_slot-requires t c =
    let a = c.args in
    let w = a.shape in
    let first = slots w a.line.now in
    let there : c.in-InLine.j < a.shape.count = omega (arith, length_slots w a.line.now, parent_in_line first a.i c.in-InLine.j (sym c.parent_of.ensures ∙ c.in-InLine.is)) in
    (search rules, c.chain_back-back.ensures.1)

pub returns-in-None : goal.returns-in-None
returns-in-None t c =
    let a = c.args in
    sym (reversed_free a.a (slots a.shape a.line.now) a.i a.p (sym c.parent_of.ensures ∙ c.in-None.is))

pub returns-in-Outside : goal.returns-in-Outside
returns-in-Outside t c =
    let a = c.args in
    let w = a.shape in
    ends_outside a.a (slots w a.line.now) a.i a.p c.get_byte-kind.ensures (omega (arith, length_slots w a.line.now, c.requires.below))
    (sym c.cursive_bit.ensures ∙ c.if-not-cursive_bit.false) c.set_chain.ensures (sym c.parent_of.ensures ∙ c.in-Outside.is)

pub returns-else-j-p : goal.returns-else-j-p
returns-else-j-p t c =
    let a = c.args in
    let w = a.shape in
    let first = slots w a.line.now in
    goes_on a.a first a.i a.p c.get_byte-kind.ensures (omega (arith, length_slots w a.line.now, c.requires.below))
    (sym c.cursive_bit.ensures ∙ c.if-not-cursive_bit.false) c.set_chain-in-InLine.ensures c.in-InLine.j (sym c.parent_of.ensures ∙ c.in-InLine.is) c.if-j-p.false
    {ss₂ = slots w c.reverse.new.line} {ss₃ = slots w c.attach_slot.new.line}
    c.chain-chain.ensures.0 c.reverse.ensures c.get-offset.ensures c.sat_neg-turned.ensures c.chain_back-back.ensures.0 c.attach_slot.ensures
