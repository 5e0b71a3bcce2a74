-- The first i slots have no cluster. Assumes nothing.
use mathlib.Core.Path.{◌≡◌, ap, ◌∙◌}
use mathlib.Core.List.{map}
use Prim.Native.Nat.{ℕ}
use native.Mathlib.Omega.{arith}
use borrow.Author.Rules.{rules}
use lib.ListN.{length, length-map, get_or-map}
use Rattle.slots.specs.Slot.{clustered_size, no_slot, slot_of, slot_size}
use Rattle.slots.specs.Fields.{with_cluster}
use Rattle.slots.specs.Line.{shape_with, slots}
use Rattle.slots.proofs.LineLaws.{length_slots, lent, lent_size}
use Rattle.moves.proofs.MoveLaws.{move_done, move_turn}
use Rattle.slots.proofs.SlotLaws.{plain_cluster}
use Rattle.moves.proofs.drop_clusters.Goals as goal

pub loop-i-preserved : goal.loop-i-preserved
loop-i-preserved c =
    let a = c.args in
    let w = shape_with clustered_size a.n in
    let v = shape_with slot_size a.n in
    let ss = slots w a.line.now in
    let call = c.copy_slot in
    let i = c.loop-i.i in
    let t = c.loop-i.target in
    move_turn w v a.line.now t (map (with_cluster 0) ss) i (search rules) (search rules) (with_cluster 0) call.new.to call.auto.to
    (call.ensures ∙ ap (λ (n : ℕ). with_cluster n (slot_of (lent w a.line.now i))) (plain_cluster (lent v t i) (omega (arith, lent_size v t i (search rules)))))
    (omega (arith, length-map ss (with_cluster 0), length_slots w a.line.now)) (get_or-map (with_cluster 0) ss i no_slot) c.loop-i.invariant

pub returns : goal.returns
returns c =
    let a = c.args in
    let w = shape_with clustered_size a.n in
    let ss = slots w a.line.now in
    let many : length (map (with_cluster 0) ss) ≡ a.n = length-map ss (with_cluster 0) ∙ length_slots w a.line.now in
    move_done (shape_with slot_size a.n) c.loop-i.target (map (with_cluster 0) ss) c.loop-i.i (omega arith) many c.loop-i.invariant
