-- A zero, another word, and a word with no call open: for each a law of the step.
use Rattle.std.proofs.Common.{sym, ◌∙◌}
use Rattle.machine.proofs.StepLaws.{at_zero, at_bad, at_unasked}
use Rattle.switch.proofs.step.status_at.Goals as goal

pub returns-then-not-call_open : goal.returns-then-not-call_open
returns-then-not-call_open c = c.refused.ensures ∙ sym (at_unasked _ _ _ _ (sym c.call_open.ensures ∙ c.if-not-call_open.true))

pub returns-then-word-eq0 : goal.returns-then-word-eq0
returns-then-word-eq0 c = c.zero_at.ensures ∙ sym (at_zero _ _ _ _ (sym c.call_open.ensures ∙ c.if-not-call_open.false) c.if-word-eq0.true)

pub returns : goal.returns
returns c = c.stop.ensures ∙ sym (at_bad _ _ _ _ (sym c.call_open.ensures ∙ c.if-not-call_open.false) c.if-word-eq0.false)
