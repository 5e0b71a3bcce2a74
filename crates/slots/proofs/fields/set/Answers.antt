-- A write of four bytes is a change of one measure. Assumes nothing.
use mathlib.Core.Path.{ap, ◌∙◌}
use Prim.Native.Nat.{ℕ, ◌-◌}
use native.Mathlib.Omega.{arith}
use borrow.Author.Rules.{rules}
use borrow.Rule.Slice.PartMut.{mid_of}
use Rattle.ints.specs.Signed.{with_int}
use Rattle.ints.specs.code.Signed.{val}
use Rattle.ints.proofs.SignedLaws.{signed_in}
use Rattle.slots.specs.Slot.{slot_of}
use Rattle.slots.specs.Fields.{with_measure}
use Rattle.slots.proofs.FieldLaws.{measure_put}
use Rattle.slots.proofs.LineLaws.{place_update, place_wide}
use Rattle.slots.proofs.fields.set.Goals as goal

pub returns : goal.returns
returns c =
    let a = c.args in
    let p = c.place_of in
    let call = c.write_i32 in
    let q = mid_of p.result.start (p.result.end - p.result.start) a.line.now in
    place_update a.shape a.line.now a.i (search rules) p.result.start p.result.end p.ensures.0 p.ensures.1 (with_measure a.m a.a (val a.v)) call.new.s call.auto.s
    (ap slot_of (call.ensures ∙ ap (λ (n : ℕ). with_int 4 q n (val a.v)) c.measure_at.ensures.0)
    ∙ measure_put (val a.v) (signed_in 4 a.v (omega arith) (omega arith)) a.m a.a q (place_wide a.shape a.line.now a.i (search rules) p.result.start p.result.end p.ensures.0 p.ensures.1))
