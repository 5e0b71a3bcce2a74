-- At the next covered place the call is made, and the answer leads on as it should. Assumes nothing.
use mathlib.Core.Path.{sym, ◌∙◌}
use borrow.Author.Rules.{rules}
use Rattle.ints.specs.BigEndian.{AllBytes}
use Rattle.lookup.proofs.TurnLaws.{call_ready, ends_so, turned_so}
use Rattle.lookup.proofs.turns.turn.Goals as goal

pub returns-in_default : goal.returns-in_default
returns-in_default c = ends_so c.requires (sym c.in_default.is ∙ c.next_covered.ensures)

pub call-answer-requires : goal.call-answer-requires
call-answer-requires c =
    call_ready c.requires _ (sym c.in-Some.is ∙ c.next_covered.ensures) _ (rw c.neighbour_after-st.ensures)

pub returns : goal.returns
returns c =
    let old : AllBytes c.args.line.now = λ n. search rules in
    let new : AllBytes c.call-answer.new.line = λ n. search rules in
    turned_so c.requires _ (sym c.in-Some.is ∙ c.next_covered.ensures) _ (rw c.neighbour_after-st.ensures) _ old new
    c.call-answer.auto.line _ c.call-answer.ensures.0 _ c.call-answer.ensures.1 _ _ c.go_on.ensures
