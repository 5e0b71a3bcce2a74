-- Bytes 5, 6 and 7 of a slot set to 0: type and chain, and nothing else. Assumes nothing.
use mathlib.Core.Path.{◌≡◌, refl}
use mathlib.Core.List.{List}
use Prim.Native.Nat.{ℕ, ◌≤◌}
use lib.ListN.{length, set}
use Rattle.ints.specs.BigEndian.{nat_at}
use Rattle.ints.specs.Signed.{int_at, signed}
use Rattle.slots.specs.Slot.{slot_of, slot_size}
use Rattle.slots.proofs.Cells.{by_cells}
use Rattle.start.specs.Start.{unattached}

-- type and chain set to 0
pub clear_put : (p : List ℕ) → slot_size ≤ length p → slot_of (set (set (set p 5 0) 6 0) 7 0) ≡ unattached (slot_of p)
unfolding slot_of nat_at int_at signed
clear_put = by_cells (λ (p : List ℕ). slot_of (set (set (set p 5 0) 6 0) 7 0) ≡ unattached (slot_of p)) (λ g r. refl)
