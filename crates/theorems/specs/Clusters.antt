-- What clusters have to do with the calls that work on one line: nothing. Assumes nothing.
use Rattle.std.specs.Prelude.{List, ◌≡◌, ℕ, length}
use Rattle.slots.specs.theorems.Clusters.{Blind, clusters, KeepsClusters, plain_line}
use Rattle.slots.specs.Line.{line_slots}
use Rattle.slots.specs.Slot.{clustered_size, Slot}
use Rattle.answers.specs.Outcome.{Call}
use Rattle.answers.specs.Said.{Said}

-- a call that neither looks at a cluster nor writes one, and leaves as many slots as there were
pub record Apart (c : Call) : Type 0 where
  pub blind : Blind c.says
  pub keeps : KeepsClusters c.leaves
  pub as_many : (ss : List Slot) → length (c.leaves ss) ≡ length ss

-- a call on a line l with clusters said r and left l'; on the line of the old 24 bytes it said q and left m'
pub record Same (l : List ℕ) (r : Said) (l' : List ℕ) (q : Said) (m' : List ℕ) : Type 0 where
  -- it said the same
  pub says_same : r ≡ q
  -- it left the old bytes as it left them there
  pub line_same : m' ≡ plain_line l'
  -- and it left every cluster
  pub clusters_same : clusters (line_slots clustered_size l') ≡ clusters (line_slots clustered_size l)
