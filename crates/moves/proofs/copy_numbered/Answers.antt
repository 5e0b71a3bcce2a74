-- Four bytes written at 24 are the cluster, and a copy leaves them. Assumes nothing.
use mathlib.Core.List.{List}
use mathlib.Core.Path.{ap, ◌∙◌}
use Prim.Native.Nat.{ℕ}
use native.Mathlib.Omega.{arith}
use Rattle.slots.specs.Fields.{with_cluster}
use Rattle.slots.specs.Slot.{slot_of}
use Rattle.moves.proofs.MoveLaws.{cluster_put}
use Rattle.moves.proofs.copy_numbered.Goals as goal

pub returns : goal.returns
returns c =
    let a = c.args in
    let is = ap (λ (q : List ℕ). (slot_of q).cluster) c.write_i32.ensures
    ∙ cluster_put a.cluster (omega arith) a.to.now (omega arith) in
    c.copy_slot.ensures ∙ ap (λ (n : ℕ). with_cluster n (slot_of a.from.now)) is
