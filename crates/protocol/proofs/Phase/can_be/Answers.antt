-- The phase picks the case: where it goes on it can be, and a stop is for its cause to say.
use Rattle.std.proofs.Common.{sym, ap, ◌∙◌}
use Rattle.protocol.specs.Phase.{can_be}
use Rattle.protocol.proofs.Phase.can_be.Goals as goal

pub returns-in-At : goal.returns-in-At
returns-in-At c = sym (ap (can_be c.args.due) c.in-At.is)

pub returns-in-Stopped : goal.returns-in-Stopped
returns-in-Stopped c = c.can_stop.ensures ∙ sym (ap (can_be c.args.due) c.in-Stopped.is)
