-- What one tick or one status does (document 01, "The machine"). It asks nothing of the state: a stopped machine stays as it is and so does
-- one that runs when a status comes, which is what the refusals 14 and 13 make of them.
use Rattle.std.specs.Prelude.{Some, Bool, true, false, cond, List, ℕ, ◌+◌, eqb, Err}
use Rattle.refusal.specs.declared.Refusal.TheVariants.{NoCallOpen}
use Rattle.timeline.specs.Windows.{next_window, next_tick}
use Rattle.records.specs.declared.WindowNo.{WindowNo}
use Rattle.plan.specs.Plan.{Plan, frame_length, window_count}
use Rattle.records.specs.Records.{nth_window, end_of}
use Rattle.protocol.specs.declared.Call.TheVariants.{SaveFor, SwapFor, ResumeFor}
use Rattle.protocol.specs.declared.Stage.{Stage}
use Rattle.protocol.specs.declared.Stage.TheVariants.{Running, SaveCtx, ProgramRegions, Resume}
use Rattle.protocol.specs.declared.Cause.TheVariants.{WrongTick, TickInSwitch, BadStatus}
use Rattle.protocol.specs.declared.Phase.{Phase}
use Rattle.protocol.specs.declared.Phase.TheVariants.{At, Stopped}
use Rattle.protocol.specs.Phase.{call_open}
use Rattle.state.specs.declared.State.{State}
use Rattle.state.specs.declared.Answer.{Answer}
use Rattle.state.specs.State.{window_no, ticked, asked, resumed}
use Rattle.state.specs.Answer.{owner, moved, quiet, stop, refused_answer}

-- what the machine knows of a plan: never the rows
pub record Timetable : Type 0 where
  pub length : ℕ
  pub count : ℕ
  pub windows : List ℕ

abbrev pub timetable : ℕ → ℕ → List ℕ → Timetable
timetable length count windows = record { length = length; count = count; windows = windows }

abbrev pub timetable_of : Plan → Timetable
timetable_of p = timetable (frame_length p) (window_count p) p.windows

abbrev pub last_tick : List ℕ → WindowNo → ℕ → Bool
last_tick windows w t = eqb (t + 1) (end_of (nth_window windows w.0))

-- "SaveCtx, target is the next window (0 after the last), mark false, asks save(owner of current)"
abbrev pub save : ℕ → List ℕ → State → Answer
save count windows s =
    moved (asked s SaveCtx (window_no (next_window count s.current.0)) false) (Some (SaveFor (owner windows s.current)))

-- "to ProgramRegions, asks swap(owner of target)"
abbrev pub swap : List ℕ → State → Answer
swap windows s = moved (asked s ProgramRegions s.target s.swapped) (Some (SwapFor (owner windows s.target)))

-- "to Resume, mark true, asks resume(owner of target)"
abbrev pub resume : List ℕ → State → Answer
resume windows s = moved (asked s Resume s.target true) (Some (ResumeFor (owner windows s.target)))

-- "Tick, Running, t = due"
unfoldable pub tick_taken : Timetable → State → ℕ → Answer
tick_taken tt s t =
    let next = ticked s (next_tick tt.length t) in
    cond (last_tick tt.windows s.current t) (save tt.count tt.windows next) (quiet next)

-- a tick at each stage
unfoldable pub tick_at : Timetable → State → Stage → ℕ → Answer
tick_at tt s stage t =
    cond (call_open stage) (stop s stage (TickInSwitch t)) (cond (eqb t s.due) (tick_taken tt s t) (stop s stage (WrongTick t)))

-- and in each phase
unfoldable pub tick_in : Timetable → State → Phase → ℕ → Answer
tick_in tt s (At stage) t = tick_at tt s stage t
tick_in tt s (Stopped stage cause) t = quiet s

unfoldable pub tick_move : Timetable → State → ℕ → Answer
tick_move tt s t = tick_in tt s s.phase t

-- "Status 0"; in Running none is let in
unfoldable pub zero_at : List ℕ → State → Stage → Answer
zero_at windows s SaveCtx = swap windows s
zero_at windows s ProgramRegions = resume windows s
zero_at windows s Resume = quiet (resumed s)
zero_at windows s Running = quiet (resumed s)

-- a status for the call that is open at a stage
unfoldable pub reply_at : List ℕ → State → Stage → ℕ → Answer
reply_at windows s stage word = cond (eqb word 0) (zero_at windows s stage) (stop s stage (BadStatus word))

-- "Status in Running: refusal 13"
unfoldable pub status_at : List ℕ → State → Stage → ℕ → Answer
status_at windows s stage word = cond (call_open stage) (reply_at windows s stage word) (refused_answer s (Err NoCallOpen))

-- what a status does in each phase: "Refused events change nothing"
unfoldable pub status_in : List ℕ → State → Phase → ℕ → Answer
status_in windows s (At stage) word = cond (call_open stage) (reply_at windows s stage word) (quiet s)
status_in windows s (Stopped stage cause) word = quiet s

unfoldable pub status_move : List ℕ → State → ℕ → Answer
status_move windows s word = status_in windows s s.phase word
