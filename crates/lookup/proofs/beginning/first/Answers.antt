-- At slot 0, or at the end of a line that has none. Assumes nothing.
use Rattle.lookup.proofs.BeginningLaws.{first_end, first_on}
use Rattle.lookup.proofs.beginning.first.Goals as goal

pub returns-then-lookup-gt0 : goal.returns-then-lookup-gt0
returns-then-lookup-gt0 c = first_on _ _ c.if-lookup-gt0.true _ c.first_neighbour.ensures

pub returns-else-lookup-gt0 : goal.returns-else-lookup-gt0
returns-else-lookup-gt0 c = first_end _ _ c.if-lookup-gt0.false
