-- Slots whose cluster is their number. Assumes nothing.
use Rattle.std.specs.Prelude.{Bool, true, ◌&&◌, List, [], ◌∷◌, ℕ, suc, eqb}
use Rattle.slots.specs.Slot.{Slot}
use Rattle.slots.specs.Fields.{with_cluster}

-- each slot with its number for a cluster, from k up
unfoldable pub numbered_from : ℕ → List Slot → List Slot
numbered_from k [] = []
numbered_from k (s ∷ ss) = with_cluster k s ∷ numbered_from (suc k) ss

-- is each slot's cluster its number, from k up?
unfoldable pub is_numbered_from : ℕ → List Slot → Bool
is_numbered_from k [] = true
is_numbered_from k (s ∷ ss) = eqb s.cluster k && is_numbered_from (suc k) ss
