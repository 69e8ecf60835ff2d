-- A state is known by its phase and what else it holds.
-- Assumes nothing.
use mathlib.Core.Path.{◌≡◌, ap}
use Rattle.protocol.specs.declared.Stage.{Stage}
use Rattle.protocol.specs.declared.Cause.{Cause}
use Rattle.protocol.specs.declared.Phase.TheVariants.{At, Stopped}
use Rattle.state.specs.declared.State.{State}
use Rattle.state.specs.State.{asked, in_phase, stopped}

pub is_stopped_lem : (s : State) {stage : Stage} {cause : Cause} → s.phase ≡ Stopped stage cause → s ≡ stopped s stage cause
is_stopped_lem s e = ap (in_phase s) e

pub is_asked : (s : State) {stage : Stage} → s.phase ≡ At stage → s ≡ asked s stage s.target s.swapped
is_asked s e = ap (in_phase s) e
