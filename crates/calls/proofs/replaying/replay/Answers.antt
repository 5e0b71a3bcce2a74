-- As much of the bytes afterwards is lent as the definition says. Assumes nothing.
use Rattle.calls.proofs.replaying.replay.Goals as goal

pub returns : goal.returns
returns c = rw c.after_length-k.ensures at c.replay_on.ensures.replayed
