-- Calls, phases and causes in numbers (document 01, "Each call is two log words: 1 save, 2 swap, 3 resume; then the partition"). Phases and
-- causes are numbered in the order in which document 01 names them; a cause goes with its tick or its status word.
use Rattle.std.specs.Prelude.{Option, Some, None, ℕ}
use Rattle.protocol.specs.declared.Call.{Call}
use Rattle.protocol.specs.declared.Call.TheVariants.{SaveFor, SwapFor, ResumeFor}
use Rattle.protocol.specs.declared.Stage.{Stage}
use Rattle.protocol.specs.declared.Stage.TheVariants.{Running, SaveCtx, ProgramRegions, Resume}
use Rattle.protocol.specs.declared.Cause.{Cause}
use Rattle.protocol.specs.declared.Cause.TheVariants.{WrongTick, TickInSwitch, BadStatus}
use Rattle.protocol.specs.declared.Phase.{Phase}
use Rattle.protocol.specs.declared.Phase.TheVariants.{At, Stopped}
use Rattle.protocol.specs.declared.CallWords.{CallWords}
use Rattle.protocol.specs.declared.PhaseWords.{PhaseWords}

abbrev pub call_of : (number partition : ℕ) → CallWords
call_of number partition = record { number = number; partition = partition }

-- "1 save, 2 swap, 3 resume; then the partition"; two zeros where there is none
abbrev pub no_call : CallWords
no_call = call_of 0 0

abbrev pub save_for : (partition : ℕ) → CallWords
save_for q = call_of 1 q

abbrev pub swap_for : (partition : ℕ) → CallWords
swap_for q = call_of 2 q

abbrev pub resume_for : (partition : ℕ) → CallWords
resume_for q = call_of 3 q

abbrev pub call_words : Option Call → CallWords
call_words None = no_call
call_words (Some (SaveFor q)) = save_for q.0
call_words (Some (SwapFor q)) = swap_for q.0
call_words (Some (ResumeFor q)) = resume_for q.0

abbrev pub stage_number : Stage → ℕ
stage_number Running = 0
stage_number SaveCtx = 1
stage_number ProgramRegions = 2
stage_number Resume = 3

abbrev pub phase_of : (phase stage cause word : ℕ) → PhaseWords
phase_of phase stage cause word = record { phase = phase; stage = stage; cause = cause; word = word }

abbrev pub stopped_words : (stage : ℕ) → Cause → PhaseWords
stopped_words stage (WrongTick t) = phase_of 4 stage 1 t
stopped_words stage (TickInSwitch t) = phase_of 4 stage 2 t
stopped_words stage (BadStatus word) = phase_of 4 stage 3 word

abbrev pub phase_words : Phase → PhaseWords
phase_words (At stage) = phase_of (stage_number stage) (stage_number stage) 0 0
phase_words (Stopped stage cause) = stopped_words (stage_number stage) cause
