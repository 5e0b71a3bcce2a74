-- Chains as numbers of 16 bits. Assumes nothing.
use Rattle.std.specs.Prelude.{List, ℕ, ltb, ℤ, pos, ◌-ℤ◌, length, if◌then◌else◌}
use Rattle.std.specs.Int.Signed.{mag}
use Rattle.slots.specs.Slot.{Slot}
use Rattle.slots.specs.Parent.{chain_limit, is_attached}
use Rattle.ints.specs.Tally.{tally}

-- The chain for a distance: 0, not attached, where the distance doesn't fit 16 bits, as in HarfBuzz. A line of 1,024
-- slots has no such distance. (`mag` of -n is n - 1.)
abbrev pub reach : ℤ → ℤ
reach z = if ltb (mag z) chain_limit then z else pos 0

-- the chain by which a child hangs on a parent
abbrev pub chain_to : ℕ → ℕ → ℤ
chain_to child parent = reach (pos parent -ℤ pos child)

-- how many slots are attached
unfoldable pub attached_count : List Slot → ℕ
attached_count ss = tally (is_attached ss) (length ss)
