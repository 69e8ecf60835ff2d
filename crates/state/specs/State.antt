-- The states that the machine makes (document 01, "The machine"). No other file writes a state out, but
-- crate `wire`'s, where states come back from words.
use Rattle.std.specs.Prelude.{Bool, false, ℕ}
use Rattle.records.specs.declared.WindowNo.{WindowNo}
use Rattle.protocol.specs.declared.Stage.{Stage}
use Rattle.protocol.specs.declared.Stage.TheVariants.{Running, ProgramRegions}
use Rattle.protocol.specs.declared.Cause.{Cause}
use Rattle.protocol.specs.declared.Phase.{Phase}
use Rattle.protocol.specs.declared.Phase.TheVariants.{At, Stopped}
use Rattle.state.specs.declared.State.{State}

abbrev pub window_no : ℕ → WindowNo
window_no i = record { 0 = i }

-- "where none was given, a state of zeros in Running with `swapped` false"
abbrev pub zeros : State
zeros = record { current = window_no 0; target = window_no 0; due = 0; swapped = false; phase = At Running }

-- "ProgramRegions, current 0, target 0, due 0, mark false"
abbrev pub cold : State
cold = record { current = window_no 0; target = window_no 0; due = 0; swapped = false; phase = At ProgramRegions }

-- a tick is taken: another is due, and "nothing else changes"
abbrev pub ticked : State → ℕ → State
ticked s due = record { current = s.current; target = s.target; due = due; swapped = s.swapped; phase = s.phase }

-- a call is open: which one, to what window, and the mark
abbrev pub asked : State → Stage → WindowNo → Bool → State
asked s stage target mark =
    record { current = s.current; target = target; due = s.due; swapped = mark; phase = At stage }

-- "Resume to Running, current becomes target"
abbrev pub resumed : State → State
resumed s = record { current = s.target; target = s.target; due = s.due; swapped = s.swapped; phase = At Running }

-- "A stop changes the phase only"
abbrev pub in_phase : State → Phase → State
in_phase s phase = record { current = s.current; target = s.target; due = s.due; swapped = s.swapped; phase = phase }

abbrev pub stopped : State → Stage → Cause → State
stopped s stage cause = in_phase s (Stopped stage cause)
