-- Laws of mark attachment: the chain's number, and the changes of the mark's slot as one. Assumes nothing.
use mathlib.Core.Path.{◌≡◌, ◌∙◌}
use mathlib.Core.List.{List}
use Prim.Native.Nat.{ℕ, ◌-◌, ◌≤◌, ◌<◌}
use native.Mathlib.Omega.{arith}
use lib.IntN.{ℤ, pos, ◌-ℤ◌}
use lib.ListN.{length}
use Rattle.ints.specs.Saturating.{sat_add}
use Rattle.ints.proofs.Ints.{sub_pos}
use Rattle.slots.specs.Axis.{cross, main}
use Rattle.slots.specs.Slot.{Slot}
use Rattle.slots.specs.Line.{update}
use Rattle.slots.specs.Fields.{attached, with_measure}
use Rattle.slots.specs.declared.axis.Axis.{Axis}
use Rattle.slots.specs.declared.axis.Direction.{Direction}
use Rattle.slots.specs.declared.fields.Measure.TheVariants.{Offset}
use Rattle.slots.specs.Parent.{mark_type}
use Rattle.chains.specs.Chains.{chain_to}
use Rattle.chains.proofs.ChainsLaws.{reach_near}
use Rattle.slots.proofs.ChainLaws.{near_fits}
use Rattle.slots.proofs.LineLaws.{update_both}
use Rattle.tables.specs.Anchor.{Point}
use Rattle.marks.specs.Attachment.{anchor_delta, mark_attached}

-- the chain back to slot b is the distance, where that fits
pub chain_near : (idx b : ℕ) → b < idx → idx - b ≤ 32768 → chain_to idx b ≡ pos b -ℤ pos idx
chain_near idx b back near = reach_near (pos b -ℤ pos idx) (rw (sub_pos b idx) (near_fits b idx (omega arith) (omega arith)))

-- what code writes to the mark's slot, in its order, hangs it
pub attached_by : (s u : ℕ) (d : Direction) (idx b : ℕ) (base mark : Point) (walk : ℤ) (ss : List Slot) {along across : Axis} {x y z chain : ℤ} {ss₁ ss₂ : List Slot}
    → b < idx → idx - b ≤ 32768 → idx < length ss
    → along ≡ main d → across ≡ cross d → x ≡ anchor_delta s u along base mark → y ≡ anchor_delta s u across base mark → z ≡ sat_add y walk → chain ≡ chain_to idx b
    → ss₁ ≡ update idx (with_measure Offset along x) ss → ss₂ ≡ update idx (λ m. attached mark_type chain (with_measure Offset across z m)) ss₁
    → ss₂ ≡ update idx (mark_attached s u d idx b base mark walk) ss
attached_by s u d idx b base mark walk ss back near inside is-along is-across is_x is_y is-z is-chain first second =
    update_both idx _ ss _ inside first second ∙ rw (is_x, is-z, is_y, is-along, is-across, is-chain, chain_near idx b back near)
