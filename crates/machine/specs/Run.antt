-- A run (document 01, "The machine"): it "takes the next status if, and only if, the last answer left a call open, else the next tick; it ends when stopped
-- or the list it needs is used up". It is defined from any state.
use Rattle.std.specs.Prelude.{cond, Option, Some, None, List, ℕ, zero, suc, ◌+◌, ◌-◌, leb, length, get_or}
use Rattle.refusal.specs.declared.Refusal.TheVariants.{LogTooShort}
use Rattle.refusal.specs.Verdict.{Verdict, accepted}
use Rattle.refusal.specs.First.{refuse_if, or_else}
use Rattle.verdict.specs.First.{unless_refused}
use Rattle.plan.specs.Plan.{Plan}
use Rattle.plan.specs.Faults.{verdict_of}
use Rattle.protocol.specs.Phase.{is_stopped}
use Rattle.run_log.specs.Log.{too_short, asks, logged, calls_logged}
use Rattle.state.specs.declared.Answer.{Answer}
use Rattle.state.specs.State.{zeros}
use Rattle.state.specs.Start.{cold_move}
use Rattle.machine.specs.Machine.{tick_of, status_of}
use Rattle.machine.specs.declared.Course.{Course}
use Rattle.machine.specs.declared.RunAnswer.{RunAnswer}

-- a tick or a status was taken
abbrev pub took : Answer → (ticks statuses : ℕ) → Course
took a ticks statuses = record { state = a.state; call = a.call; ticks = ticks; statuses = statuses }

-- the next tick, if there is one
unfoldable pub tick_turn : Plan → List ℕ → Course → Option Course
tick_turn p ticks c =
    cond (leb (length ticks) c.ticks) None (Some (took (tick_of p c.state (get_or ticks c.ticks 0)) (c.ticks + 1) c.statuses))

-- the next status, if there is one
unfoldable pub status_turn : Plan → List ℕ → Course → Option Course
status_turn p statuses c =
    cond (leb (length statuses) c.statuses) None
    (Some (took (status_of p c.state (get_or statuses c.statuses 0)) c.ticks (c.statuses + 1)))

-- nothing once it is stopped
unfoldable pub turn : Plan → (ticks statuses : List ℕ) → Course → Option Course
turn p ticks statuses c =
    cond (is_stopped c.state.phase) None (cond (asks c.call) (status_turn p statuses c) (tick_turn p ticks c))

-- how far a run is, with its log
pub record Progress : Type 0 where
  pub course : Course
  pub calls : ℕ
  pub log : List ℕ

abbrev pub progress : Course → (calls : ℕ) → (log : List ℕ) → Progress
progress course calls log = record { course = course; calls = calls; log = log }

-- at another course, with the call of the last answer in the log
abbrev pub with_logged : Progress → Course → Progress
with_logged g c =
    let call = g.course.call in
    progress c (calls_logged g.log g.calls call) (logged g.log g.calls call)

-- on from what a turn took, or the end, where it took nothing
abbrev pub on_or_end : Option Course → (Course → Progress) → (end : Progress) → Progress
on_or_end None on end = end
on_or_end (Some c) on end = on c

-- the call goes into the log, then the next turn is taken, while there is one, but not more often than so
unfoldable pub go_on : Plan → (ticks statuses : List ℕ) → (turns : ℕ) → Progress → Progress
go_on p ticks statuses zero g = g
go_on p ticks statuses (suc turns) g =
    on_or_end (turn p ticks statuses g.course) (λ c. go_on p ticks statuses turns (with_logged g c)) (with_logged g g.course)

-- how many turns there can be: one for each tick and each status that is left, and the last, which takes nothing
abbrev pub left : (ticks statuses : List ℕ) → Course → ℕ
left ticks statuses c = suc (length ticks - c.ticks + (length statuses - c.statuses))

abbrev pub ended : Progress → RunAnswer
ended g =
    record {
      state = g.course.state;
      ticks = g.course.ticks;
      statuses = g.course.statuses;
      calls = g.calls;
      verdict = accepted;
    }

-- "a refused run, three zeros"
abbrev pub refused_run : Verdict → RunAnswer
refused_run verdict = record { state = zeros; ticks = 0; statuses = 0; calls = 0; verdict = verdict }

-- the plan's own numbers, then 16
unfoldable pub run_verdict : Plan → (ticks log : List ℕ) → Verdict
run_verdict p ticks log = or_else (verdict_of p) (refuse_if (too_short (length log) (length ticks)) LogTooShort)

-- from the cold start, whose call is the first
abbrev pub cold_course : Plan → Course
cold_course p = took (cold_move p.windows) 0 0

abbrev pub whole : Plan → (ticks statuses log : List ℕ) → Progress
whole p ticks statuses log = go_on p ticks statuses (left ticks statuses (cold_course p)) (progress (cold_course p) 0 log)

unfoldable pub run_of : Plan → (ticks statuses log : List ℕ) → RunAnswer
run_of p ticks statuses log = unless_refused (run_verdict p ticks log) (ended (whole p ticks statuses log)) (refused_run (run_verdict p ticks log))

-- "a refused run leaves the whole log"
unfoldable pub log_of : Plan → (ticks statuses log : List ℕ) → List ℕ
log_of p ticks statuses log = unless_refused (run_verdict p ticks log) (whole p ticks statuses log).log log
