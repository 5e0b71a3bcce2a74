-- A chain is 0 where its bytes are. Assumes nothing.
use mathlib.Core.Path.{ap, ◌∙◌}
use mathlib.Core.Bool.{not}
use lib.Dec.{eqb}
use lib.IntN.{ℤ, nat_abs}
use Rattle.slots.proofs.ChainLaws.{attached_bytes}
use Rattle.slots.proofs.fields.is_attached.Goals as goal

pub returns : goal.returns
returns c =
    let call = c.chain_bytes in
    attached_bytes call.result call.ensures.1 ∙ ap (λ (z : ℤ). not (eqb (nat_abs z) 0)) call.ensures.0
