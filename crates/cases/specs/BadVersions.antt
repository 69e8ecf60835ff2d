-- "Try these bad versions" (document 01, "Nothing left to choose"): "a check that refuses every plan, or a lookup that says 0 (demand 2); a machine that
-- never moves, or stops at once (demand 3 ...); a switch that asks for all three calls on the tick and nods through the statuses ...; a run with invented counts". Each is written
-- as a definition, as if code and contract had been changed together, and the demand's own statement does not hold of it; nor of what the
-- original did, start in Running with no regions programmed and run on after a missed tick. What demand 2 asks of a verdict and of a window
-- has one answer only.
use Rattle.std.specs.Prelude.{Option, Some, None, List, ◌≡◌, ℕ, ◌+◌, ◌*◌, ◌≤◌, length, Err}
use Rattle.refusal.specs.declared.Refusal.TheVariants.{Counts}
use Rattle.refusal.specs.Verdict.{Verdict}
use Rattle.plan.specs.Plan.{Plan}
use Rattle.timeline.specs.declared.Located.{Located}
use Rattle.records.specs.declared.WindowNo.{WindowNo}
use Rattle.lookup.specs.Lookup.{located, lookup_of}
use Rattle.protocol.specs.declared.Call.{Call}
use Rattle.protocol.specs.declared.Call.TheVariants.{SaveFor, SwapFor, ResumeFor}
use Rattle.protocol.specs.declared.Stage.TheVariants.{ProgramRegions}
use Rattle.protocol.specs.declared.Cause.TheVariants.{TickInSwitch, BadStatus}
use Rattle.state.specs.declared.State.{State}
use Rattle.state.specs.declared.Answer.{Answer}
use Rattle.state.specs.State.{zeros}
use Rattle.state.specs.Answer.{quiet, stop}
use Rattle.state.specs.Start.{cold_of}
use Rattle.history.specs.Reached.{Event, tick, status}
use Rattle.history.specs.History.{Machine, answer_of}
use Rattle.demands.specs.Machine.{CheckAccepts, Sentences}
use Rattle.machine.specs.declared.RunAnswer.{RunAnswer}
use Rattle.machine.specs.Run.{run_of, log_of}
use Rattle.demands.specs.Refusals.{RightVerdict, RightWindow}
use Rattle.demands.specs.Run.{IsTheMachine}

abbrev pub refuses_every : Plan → Verdict
refuses_every p = Err Counts

abbrev pub says_zero : Plan → ℕ → Located WindowNo
says_zero p t = located 0 (lookup_of p t).verdict

-- machines that start as they should
abbrev pub never_moves : Plan → Machine
never_moves p = record { start = cold_of p; answer = λ s e. quiet s }

abbrev pub stop_for : State → Event → Answer
stop_for s (tick t) = stop s ProgramRegions (TickInSwitch t)
stop_for s (status word) = stop s ProgramRegions (BadStatus word)

abbrev pub stops_at_once : Plan → Machine
stops_at_once p = record { start = cold_of p; answer = stop_for }

-- the tick that ends a window asks for the resume, as if save and swap had been answered
abbrev pub resume_first : Option Call → Option Call
resume_first None = None
resume_first (Some (SaveFor q)) = Some (ResumeFor q)
resume_first (Some (SwapFor q)) = Some (SwapFor q)
resume_first (Some (ResumeFor q)) = Some (ResumeFor q)

abbrev pub asked_at_once : Answer → Answer
asked_at_once a = record { state = a.state; call = resume_first a.call; verdict = a.verdict }

abbrev pub asks_at_once : Plan → Machine
asks_at_once p = record { start = cold_of p; answer = λ s e. asked_at_once (answer_of p s e) }

-- the original's start, and a machine that takes whichever tick comes for the due one
abbrev pub starts_running : Plan → Machine
starts_running p = record { start = quiet zeros; answer = answer_of p }

abbrev pub answer_late : Plan → State → Event → Answer
answer_late p s (tick t) = answer_of p s (tick s.due)
answer_late p s (status word) = answer_of p s (status word)

abbrev pub runs_on : Plan → Machine
runs_on p = record { start = cold_of p; answer = answer_late p }

-- a run with counts of its own
abbrev pub invented_counts : (ticks statuses calls : ℕ) → RunAnswer → RunAnswer
invented_counts ticks statuses calls r = record { state = r.state; ticks = ticks; statuses = statuses; calls = calls; verdict = r.verdict }

-- whatever they are, some run has others
abbrev pub Invented : (ticks statuses calls : ℕ) → Type 0
Invented t s c =
    (p : Plan) → CheckAccepts p → (ticks statuses log : List ℕ) → 4 + 6 * length ticks ≤ length log
    → IsTheMachine p ticks statuses log (invented_counts t s c (run_of p ticks statuses log)) (log_of p ticks statuses log)

pub record BadVersions : Type 0 where
  pub refuses_every_plan : ((p : Plan) → RightVerdict p (refuses_every p)) → ⊥
  pub lookup_says_0 : ((p : Plan) (t : ℕ) → RightWindow p t (says_zero p t)) → ⊥
  pub never_moves_lem : (p : Plan) → Sentences p (never_moves p) → ⊥
  pub stops_at_once_lem : (p : Plan) → Sentences p (stops_at_once p) → ⊥
  pub asks_at_once_lem : ((p : Plan) → CheckAccepts p → Sentences p (asks_at_once p)) → ⊥
  pub starts_running_lem : (p : Plan) → Sentences p (starts_running p) → ⊥
  pub runs_on_lem : ((p : Plan) → CheckAccepts p → Sentences p (runs_on p)) → ⊥
  pub invented_counts_lem : (ticks statuses calls : ℕ) → Invented ticks statuses calls → ⊥

pub record OneRightAnswer : Type 0 where
  pub verdict : (p : Plan) (v w : Verdict) → RightVerdict p v → RightVerdict p w → v ≡ w
  pub window : (p : Plan) (t : ℕ) (l m : Located WindowNo) → RightWindow p t l → RightWindow p t m → l ≡ m
