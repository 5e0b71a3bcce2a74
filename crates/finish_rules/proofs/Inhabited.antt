-- Demand 3 speaks of something: the line of the finishing program's example is one of its lines. Assumes nothing.
use mathlib.Core.Bool.{true}
use mathlib.Core.Path.{◌≡◌, refl, subst}
use Prim.Native.Nat.{ℕ, zero, suc, ◌≤◌, ◌<◌}
use native.Mathlib.Omega.{arith}
use lib.IntN.{nat_abs}
use lib.ListN.{length}
use Rattle.slots.specs.Line.{slot}
use Rattle.slots.specs.Fields.{measure}
use Rattle.slots.specs.Parent.{parent}
use Rattle.slots.specs.declared.axis.Axis.{Axis}
use Rattle.slots.specs.declared.axis.Axis.TheVariants.{X, Y}
use Rattle.slots.specs.declared.axis.Direction.{Direction}
use Rattle.slots.specs.declared.fields.Measure.{Measure}
use Rattle.slots.specs.declared.fields.Measure.TheVariants.{Advance, Offset}
use Rattle.slots.specs.declared.parent.Parent.TheVariants.{InLine}
use Rattle.slots.proofs.ParentLaws.{none_ends}
use Rattle.finish_rules.specs.Finish.{finished}
use Rattle.finish_rules.specs.theorems.Demand3.{Bounded, Demand3, EndsWithin, Mark}
use Rattle.finish_rules.proofs.Examples.{example}
use Rattle.finish_rules.proofs.Theorem.{demand3}

-- the base ends its chain, and each hop to the slot before is one more
base : (n : ℕ) → EndsWithin example n 0
unfolding parent
base zero = none_ends refl
base (suc n) = λ j e. absurd (none_ends refl j e)

one_hop : (n i k : ℕ) → parent example i ≡ InLine k → EndsWithin example n k → EndsWithin example (suc n) i
one_hop n i k p h = λ j e. let same : k ≡ j = cc in subst (EndsWithin example n) same h

-- from every slot at most 64 hops
ends : (i : ℕ) → i < length example → EndsWithin example 64 i
unfolding parent
ends zero lt = base 64
ends (suc zero) lt = one_hop 63 1 0 refl (base 63)
ends (suc (suc zero)) lt = one_hop 63 2 1 refl (one_hop 62 1 0 refl (base 62))
ends (suc (suc (suc i))) lt = absurd (omega arith)

-- all advances and offsets are small
near : (m : Measure) (i : ℕ) (a : Axis) → i < length example → nat_abs (measure m a (slot example i)) ≤ 524288
near Advance zero X lt = omega arith
near Advance zero Y lt = omega arith
near Advance (suc zero) X lt = omega arith
near Advance (suc zero) Y lt = omega arith
near Advance (suc (suc zero)) X lt = omega arith
near Advance (suc (suc zero)) Y lt = omega arith
near Offset zero X lt = omega arith
near Offset zero Y lt = omega arith
near Offset (suc zero) X lt = omega arith
near Offset (suc zero) Y lt = omega arith
near Offset (suc (suc zero)) X lt = omega arith
near Offset (suc (suc zero)) Y lt = omega arith
near m (suc (suc (suc i))) a lt = absurd (omega arith)

-- the premises hold of it
pub bounded : Bounded 64 example
bounded = record { few_slots = omega arith; nesting = omega arith; advances_near = near Advance; offsets_near = near Offset; chains_end = ends }

-- both marks are marks, the second on the first
pub two_marks : Mark example 1 0 × Mark example 2 1
unfolding parent
two_marks = (record { type_is = refl; parent_is = refl }, record { type_is = refl; parent_is = refl })

-- so demand 3 speaks of it, in every direction
pub holds : (d : Direction) → Demand3 d example (finished d 64 true example)
holds d = demand3 d 64 example bounded
