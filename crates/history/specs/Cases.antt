-- What a tick and a status can do to a state: each sentence of document 01's "The machine" on events is a case. There is no other:
-- `tick_case` and `status_case`, proofs/Cases.antt.
use Rattle.std.specs.Prelude.{true, List, ◌≡◌, ℕ, ◌+◌}
use Rattle.timeline.specs.Windows.{next_tick}
use Rattle.records.specs.Records.{nth_window, end_of}
use Rattle.protocol.specs.declared.Stage.{Stage}
use Rattle.protocol.specs.declared.Stage.TheVariants.{Running, SaveCtx, ProgramRegions, Resume}
use Rattle.protocol.specs.declared.Cause.{Cause}
use Rattle.protocol.specs.declared.Cause.TheVariants.{WrongTick, TickInSwitch, BadStatus}
use Rattle.protocol.specs.declared.Phase.TheVariants.{At, Stopped}
use Rattle.protocol.specs.Phase.{call_open}
use Rattle.state.specs.declared.State.{State}
use Rattle.state.specs.State.{ticked, resumed}
use Rattle.state.specs.Answer.{quiet, stop}
use Rattle.machine.specs.Step.{Timetable, save, swap, resume, tick_move, status_move}

module _ (tt : Timetable) (s : State) where
  -- "due becomes t + 1, or 0 at the frame length"
  abbrev pub onward : ℕ → State
  onward t = ticked s (next_tick tt.length t)

  pub data TickCase (t : ℕ) : Type 0 where
    -- "Tick, Running, t = due: ... Otherwise nothing else changes"
    window_goes_on : s.phase ≡ At Running → t ≡ s.due → (t + 1 ≡ end_of (nth_window tt.windows s.current.0) → ⊥)
        → tick_move tt s t ≡ quiet (onward t) → TickCase t
    -- "If t was the window's last tick: SaveCtx, target is the next window (0 after the last), mark false, asks save(owner of current)"
    window_ends : s.phase ≡ At Running → t ≡ s.due → t + 1 ≡ end_of (nth_window tt.windows s.current.0)
        → tick_move tt s t ≡ save tt.count tt.windows (onward t) → TickCase t
    -- "Tick, Running, t not due: stopped"
    wrong_tick : s.phase ≡ At Running → (t ≡ s.due → ⊥) → tick_move tt s t ≡ stop s Running (WrongTick t) → TickCase t
    -- "Tick in one of the three switch phases, any t: stopped"
    tick_in_a_switch : (stage : Stage) → s.phase ≡ At stage → call_open stage ≡ true
        → tick_move tt s t ≡ stop s stage (TickInSwitch t) → TickCase t
    -- "A stopped machine leaves that state only by a new cold start"
    tick_too_late : (stage : Stage) (cause : Cause) → s.phase ≡ Stopped stage cause → tick_move tt s t ≡ quiet s → TickCase t

module _ (windows : List ℕ) (s : State) where
  pub data StatusCase (word : ℕ) : Type 0 where
    -- "Status 0: SaveCtx to ProgramRegions, asks swap(owner of target)"
    saved : s.phase ≡ At SaveCtx → word ≡ 0 → status_move windows s word ≡ swap windows s → StatusCase word
    -- "ProgramRegions to Resume, mark true, asks resume(owner of target)"
    programmed : s.phase ≡ At ProgramRegions → word ≡ 0 → status_move windows s word ≡ resume windows s → StatusCase word
    -- "Resume to Running, current becomes target"
    runs_again : s.phase ≡ At Resume → word ≡ 0 → status_move windows s word ≡ quiet (resumed s) → StatusCase word
    -- "Nonzero status in those phases: stopped"
    bad_status : (stage : Stage) → s.phase ≡ At stage → call_open stage ≡ true → (word ≡ 0 → ⊥)
        → status_move windows s word ≡ stop s stage (BadStatus word) → StatusCase word
    -- "Status in Running: refusal 13. Refused events change nothing"
    status_unasked_for : s.phase ≡ At Running → status_move windows s word ≡ quiet s → StatusCase word
    -- "A stopped machine leaves that state only by a new cold start"
    status_too_late : (stage : Stage) (cause : Cause) → s.phase ≡ Stopped stage cause → status_move windows s word ≡ quiet s
        → StatusCase word
