-- A turn of the loop is a turn of the run: what holds at its beginning holds at the next, which is nearer to the end; and once the state has an end, the run is over.
-- Assumes nothing.
use borrow.Author.Rules.{rules}
use Rattle.gpos.proofs.RunLaws.{enough, next, over_done, over_endless, turns_fall}
use Rattle.gpos.proofs.running.lookup.Goals as goal

pub put-records-requires : goal.put-records-requires
put-records-requires c = rw c.turn-next.ensures.0 (enough c.loop-st.invariant c.in-None.is)

pub loop-st-smaller : goal.loop-st-smaller
loop-st-smaller c = rw c.turn-next.ensures.1 (turns_fall c.loop-st.invariant c.in-None.is)

pub loop-st-preserved : goal.loop-st-preserved
loop-st-preserved c =
    let can_go = rw (c.turn-next.ensures.2, c.turn-next.ensures.1) at c.turn-next.ensures.3 in
    rw (c.put-records.ensures.0, c.put-records.ensures.1, c.turn-next.ensures.2, c.turn-next.ensures.1, c.turn-next.ensures.0)
    (next c.loop-st.invariant c.in-None.is can_go)

pub returns-in-Some-Done : goal.returns-in-Some-Done
returns-in-Some-Done c = over_done c.loop-st.invariant (search rules)

pub returns-in-Some-Endless : goal.returns-in-Some-Endless
returns-in-Some-Endless c = over_endless c.loop-st.invariant (search rules)
