-- The answer and the bytes afterwards that the call gave are the recorded ones. Assumes nothing.
use Rattle.calls.proofs.replaying.replay_on.Goals as goal

pub returns-then-is_answer-clause-replayed : goal.returns-then-is_answer-clause-replayed
returns-then-is_answer-clause-replayed c =
    λ e. rw (c.is_answer.ensures.0 c.if-is_answer.true, c.is_after.ensures.0 e) at c.make-answer.ensures
