-- In a switch, and at the due tick, a law of the step says it; the wrong tick is left to the search, whose goal an edit of the test renames.
use Rattle.std.proofs.Common.{arith, sym, ◌∙◌}
use Rattle.machine.proofs.StepLaws.{at_in_switch, at_due}
use Rattle.switch.proofs.step.tick_at.Goals as goal

pub returns-then-call_open : goal.returns-then-call_open
returns-then-call_open c = c.stop.ensures ∙ sym (at_in_switch _ _ _ _ (sym c.call_open.ensures ∙ c.if-call_open.true))

pub returns : goal.returns
returns c = c.tick_taken.ensures ∙ sym (at_due _ _ _ _ (sym c.call_open.ensures ∙ c.if-call_open.false) (omega arith))
