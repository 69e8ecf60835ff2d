-- What a phase tells (document 01, "The machine"): "Running, SaveCtx, ProgramRegions, Resume, or stopped. A stop keeps the phase it happened in
-- and its cause: wrong tick (with t), tick in a switch (with t), or bad status (with the word)".
use Rattle.std.specs.Prelude.{Bool, true, false, not, ◌&&◌, ℕ, eqb}
use Rattle.protocol.specs.declared.Stage.{Stage}
use Rattle.protocol.specs.declared.Stage.TheVariants.{Running, SaveCtx, ProgramRegions, Resume}
use Rattle.protocol.specs.declared.Cause.{Cause}
use Rattle.protocol.specs.declared.Cause.TheVariants.{WrongTick, TickInSwitch, BadStatus}
use Rattle.protocol.specs.declared.Phase.{Phase}
use Rattle.protocol.specs.declared.Phase.TheVariants.{At, Stopped}

-- the three phases in which a call waits for its status
abbrev pub call_open : Stage → Bool
call_open Running = false
call_open SaveCtx = true
call_open ProgramRegions = true
call_open Resume = true

abbrev pub runs : Phase → Bool
runs (At stage) = not (call_open stage)
runs (Stopped stage cause) = false

abbrev pub is_stopped : Phase → Bool
is_stopped (At stage) = false
is_stopped (Stopped stage cause) = true

-- the stage that it is at, or was at when it stopped
abbrev pub stage_of : Phase → Stage
stage_of (At stage) = stage
stage_of (Stopped stage cause) = stage

-- "Tick, Running, t not due: stopped. Tick in one of the three switch phases, any t: stopped. ... Nonzero status in those phases: stopped"
abbrev pub can_stop : Stage → (due : ℕ) → Cause → Bool
can_stop stage due (WrongTick t) = not (call_open stage) && not (eqb t due)
can_stop stage due (TickInSwitch t) = call_open stage
can_stop stage due (BadStatus word) = call_open stage && not (eqb word 0)

abbrev pub can_be : (due : ℕ) → Phase → Bool
can_be due (At stage) = true
can_be due (Stopped stage cause) = can_stop stage due cause

-- the word that a stop keeps
abbrev pub kept_word : Phase → ℕ
kept_word (At stage) = 0
kept_word (Stopped stage (WrongTick t)) = t
kept_word (Stopped stage (TickInSwitch t)) = t
kept_word (Stopped stage (BadStatus word)) = word
