-- What answers a number is laid out first. Assumes nothing.
use mathlib.Core.Path.{refl}
use Rattle.calls.specs.Made.{finish, from_clusters, start, to_clusters}
use Rattle.calls.proofs.making.make.Goals as goal

pub returns-in-Start : goal.returns-in-Start
returns-in-Start c = rw c.in-Start.is (start refl c.numbered.ensures c.gpos_start.ensures)

pub returns-in-Finish : goal.returns-in-Finish
returns-in-Finish c = rw c.in-Finish.is (finish refl c.numbered-in-Finish.ensures c.gpos_finish.ensures)

pub returns-in-ToClusters : goal.returns-in-ToClusters
returns-in-ToClusters c = rw c.in-ToClusters.is (to_clusters refl c.numbered-in-ToClusters.ensures c.gpos_to_clusters.ensures)

pub returns-in-FromClusters : goal.returns-in-FromClusters
returns-in-FromClusters c = rw c.in-FromClusters.is (from_clusters refl c.numbered-in-FromClusters.ensures c.gpos_from_clusters.ensures)
