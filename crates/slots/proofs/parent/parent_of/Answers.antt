-- Slot number plus chain, computed 2 ^ 15 higher: below that it is before the line, from the count up it is past it. Assumes nothing.
use mathlib.Core.Path.{sym, ◌∙◌}
use native.Mathlib.Omega.{arith}
use Rattle.slots.specs.Line.{slots}
use Rattle.slots.proofs.ChainLaws.{unattached_chain}
use Rattle.slots.proofs.LineLaws.{length_slots}
use Rattle.slots.proofs.ParentLaws.{found_before, found_in, found_past, parent_none}
use Rattle.slots.proofs.parent.parent_of.Goals as goal

pub returns-then-chain-eq0 : goal.returns-then-chain-eq0
returns-then-chain-eq0 c =
    let a = c.args in
    let chain = c.chain_bytes-chain in
    sym (parent_none (slots a.shape a.line.now) a.i (sym chain.ensures.0 ∙ unattached_chain chain.result c.if-chain-eq0.true))

pub returns-in-Some : goal.returns-in-Some
returns-in-Some c =
    let a = c.args in
    let chain = c.chain_bytes-chain in
    let found = c.in-Some.ensures in
    found_in (slots a.shape a.line.now) a.i a.shape.count chain.result c.raised.result (length_slots a.shape a.line.now) chain.ensures.0 c.raised.ensures.0 chain.ensures.1 c.if-chain-eq0.false
    c.in-Some.j found.0 found.1 c.if-j-shape.true

pub returns-in_default : goal.returns-in_default
returns-in_default c =
    let a = c.args in
    let chain = c.chain_bytes-chain in
    let found = c.in-Some.ensures in
    found_past (slots a.shape a.line.now) a.i a.shape.count chain.result c.raised.result (length_slots a.shape a.line.now) chain.ensures.0 c.raised.ensures.0 chain.ensures.1 c.if-chain-eq0.false
    c.in-Some.j found.0 found.1 c.if-j-shape.false

pub returns-in_default-2 : goal.returns-in_default-2
returns-in_default-2 c =
    let a = c.args in
    let chain = c.chain_bytes-chain in
    let none = c.in_default.ensures in
    found_before (slots a.shape a.line.now) a.i a.shape.count chain.result c.raised.result (length_slots a.shape a.line.now) chain.ensures.0 c.raised.ensures.0 chain.ensures.1 c.if-chain-eq0.false
    (omega (arith, none))
