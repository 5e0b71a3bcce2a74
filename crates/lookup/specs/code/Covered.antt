-- The next place at which a call can do more than decline without hazard. Assumes nothing.
use Rattle.std.specs.Prelude.{None, Option, Some, true, List, ◌≡◌, ℕ, zero, suc, ◌+◌, ◌-◌, ◌*◌, ◌≤◌, ◌<◌, ltb, get_or, length, if◌then◌else◌}
use Rattle.slots.specs.Slot.{Slot}
use Rattle.slots.specs.Line.{slot}
use Rattle.tables.specs.Coverage.{coverage_at, coverage_good_at}
use Rattle.tables.specs.Header.{coverage_offset}
use Rattle.lookup.specs.Subtables.{subtable}
use Rattle.lookup.specs.declared.covered.Place.{Place}

-- the coverage index of a glyph in the coverage that decides, whose offset every kind of subtable has in one place
abbrev pub cover_of : List ℕ → ℕ → Option ℕ
cover_of t g = coverage_at t (coverage_offset t) g

-- that of slot i
abbrev pub cover_at : List ℕ → List Slot → ℕ → Option ℕ
cover_at t ss i = cover_of t (slot ss i).glyph

-- it can be read
pub record Readable (t : List ℕ) : Type 0 where
  pub long : 4 ≤ length t
  pub good : coverage_good_at t (coverage_offset t) ≡ true

-- all subtables' can
abbrev pub AllReadable : (b lengths : List ℕ) → Type 0
AllReadable b lengths = (k : ℕ) → k < length lengths → Readable (subtable lengths b k)

-- slot i with subtable k, which starts at byte `start` and covers the slot's glyph, as m
abbrev pub place : (i k start m : ℕ) → Place
place i k start m = record { index = i; subtable = k; start = start; covered = m }

-- here, if the glyph is covered, or what is farther on
abbrev pub place_by : (i k start : ℕ) → Option Place → Option ℕ → Option Place
place_by i k start farther (Some m) = Some (place i k start m)
place_by i k start farther None = farther

-- in a line of the slots ss, with the subtables of the buffer b
module _ (ss : List Slot) (b lengths : List ℕ) where
  -- the next covered place from slot i and subtable k on, which starts at byte `start`, in at most n steps: to the next
  -- subtable, or from the last to the next slot
  unfoldable pub place_in : ℕ → (i k start : ℕ) → Option Place
  place_in zero i k start = None
  place_in (suc n) i k start =
      if ltb i (length ss)
      then (if ltb k (length lengths)
      then place_by i k start (place_in n i (k + 1) (start + get_or lengths k 0)) (cover_at (subtable lengths b k) ss i)
      else place_in n (i + 1) 0 0)
      else None

  -- so many steps come to the line's end
  abbrev pub steps_from : ℕ → ℕ → ℕ
  steps_from i k = (length ss - i) * (length lengths + 1) + (length lengths - k)

  -- the next covered place: there may be none before the line's end
  abbrev pub next_place : (i k start : ℕ) → Option Place
  next_place i k start = place_in (steps_from i k) i k start
