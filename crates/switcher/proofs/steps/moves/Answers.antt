-- A refusal takes no step.
use Rattle.std.proofs.Common.{refl}
use Rattle.switcher.proofs.steps.moves.Goals as goal

pub returns-in-Err : goal.returns-in-Err
returns-in-Err c = rw c.in-Err.is refl
