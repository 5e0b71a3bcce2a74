-- Values worked by hand from the rules: a started line, of slots of either size. They compute. Assumes nothing.
use mathlib.Core.List.{[], ◌∷◌}
use mathlib.Core.Path.{◌≡◌, refl}
use lib.IntN.{pos}
use Rattle.ints.specs.BigEndian.{nat_at}
use Rattle.ints.specs.Signed.{int_at, signed}
use Rattle.slots.specs.Fields.{with_cluster}
use Rattle.slots.specs.Line.{line_slots, slots, slots_n}
use Rattle.slots.specs.Slot.{slot_of}
use Rattle.slots.proofs.Examples.{clustered, full, full_slot}
use Rattle.start.specs.Start.{started}

pub record Worked : Type 0 where
  -- starting clears chain and type, and nothing else; an empty line stays empty
  pub starts : (started (line_slots 24 full) ≡ full_slot 0 (pos 0) ∷ []) × (started (line_slots 24 []) ≡ [])
      × (started (line_slots 28 clustered) ≡ with_cluster 66051 (full_slot 0 (pos 0)) ∷ [])

pub worked : Worked
unfolding nat_at signed int_at slot_of slots_n slots
worked = record { starts = (refl, refl, refl) }
