-- 17 where the test fails, else what the phase tells.
use Rattle.std.proofs.Common.{sym, ◌∙◌}
use Rattle.refusal.specs.First.{refuse_if, or_else}
use Rattle.machine.specs.Guard.{state_verdict}
use Rattle.guard.proofs.let_in.Goals as goal

pub returns-then-not-fits_at : goal.returns-then-not-fits_at
unfolding state_verdict or_else refuse_if
returns-then-not-fits_at c = rw (sym c.fits_at.ensures ∙ c.if-not-fits_at.true)

pub returns-in-At : goal.returns-in-At
unfolding state_verdict or_else refuse_if
returns-in-At c = rw (sym c.fits_at.ensures ∙ c.if-not-fits_at.false, c.in-At.is)

pub returns-in-Stopped : goal.returns-in-Stopped
unfolding state_verdict or_else refuse_if
returns-in-Stopped c = rw (sym c.fits_at.ensures ∙ c.if-not-fits_at.false, c.in-Stopped.is)
