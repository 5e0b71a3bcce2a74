-- Which changes leave what slots are: the laws that all calls share. Assumes nothing.
use Rattle.std.specs.Prelude.{if◌then◌else◌}
use mathlib.Core.Bool.{Bool, true, false}
use mathlib.Core.List.{List}
use mathlib.Core.Path.{◌≡◌, refl}
use Prim.Native.Nat.{ℕ}
use lib.IntN.{ℤ, pos}
use lib.Seq.{map-set_same}
use Rattle.slots.specs.Slot.{Slot, no_slot}
use Rattle.slots.specs.Line.{slot, update}
use Rattle.slots.specs.Fields.{with_chain, with_measure}
use Rattle.slots.specs.Parent.{cleared}
use Rattle.slots.specs.theorems.Identity.{identities, identity}
use Rattle.slots.specs.declared.axis.Axis.{Axis}
use Rattle.slots.specs.declared.axis.Axis.TheVariants.{X, Y}
use Rattle.slots.specs.declared.fields.Measure.{Measure}
use Rattle.slots.specs.declared.fields.Measure.TheVariants.{Advance, Offset}
use Rattle.answers.specs.Said.{Said, applied, declined, refused, done}
use Rattle.answers.specs.code.Effect.{slots_after}

-- what holds of two things holds of a choice between them
pub choice : {A : Type 0} (P : A → Type 0) (x y : A) → P x → P y → (t : Bool) → P (if t then x else y)
choice P x y h k true = h
choice P x y h k false = k

-- an advance or an offset is no part of what a slot is; nor are its type and its chain, by computation
pub measure_kept : (m : Measure) (a : Axis) (z : ℤ) (s : Slot) → identity (with_measure m a z s) ≡ identity s
measure_kept Advance X z s = refl
measure_kept Advance Y z s = refl
measure_kept Offset X z s = refl
measure_kept Offset Y z s = refl

-- one slot changed without changing what it is
pub update_kept : (i : ℕ) (f : Slot → Slot) → ((s : Slot) → identity (f s) ≡ identity s) → (ss : List Slot) → identities (update i f ss) ≡ identities ss
unfolding update
update_kept i f h ss = map-set_same identity ss i (f (slot ss i)) no_slot (h (slot ss i))

-- a chain cleared
pub cleared_kept : (ss : List Slot) (i : ℕ) → identities (cleared ss i) ≡ identities ss
unfolding cleared
cleared_kept ss i = update_kept i (with_chain (pos 0)) (λ s. refl) ss

-- whatever a call says
pub after_kept : (s : Said) (ss new : List Slot) → identities new ≡ identities ss → identities (slots_after s ss new) ≡ identities ss
after_kept (applied n hs a) ss new e = e
after_kept done ss new e = e
after_kept (declined hs) ss new e = refl
after_kept (refused n) ss new e = refl
