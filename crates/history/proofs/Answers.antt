-- What the entry points answer to a state that fits: nothing is refused but 14 and 13, and the rest is the step.
-- Assumes nothing.
use mathlib.Core.Bool.{true, false}
use mathlib.Core.Path.{◌≡◌, refl, sym, ap, ◌∙◌}
use Prim.Native.Nat.{ℕ}
use Rattle.refusal.specs.declared.Refusal.{Refusal}
use Rattle.refusal.specs.declared.Refusal.TheVariants.{NoCallOpen, MachineStopped}
use Rattle.refusal.specs.Verdict.{Verdict, accepted}
use Rattle.std.specs.Prelude.{Ok, Err}
use Rattle.verdict.proofs.First.{never_both}
use Rattle.plan.specs.Plan.{Plan}
use Rattle.accepted.specs.Accepted as plan
use Rattle.accepted.proofs.AcceptedLaws.{all_accepted}
use Rattle.protocol.specs.declared.Stage.{Stage}
use Rattle.protocol.specs.declared.Stage.TheVariants.{Running, SaveCtx, ProgramRegions, Resume}
use Rattle.protocol.specs.declared.Cause.{Cause}
use Rattle.protocol.specs.declared.Phase.TheVariants.{At, Stopped}
use Rattle.state.specs.declared.State.{State}
use Rattle.state.specs.declared.Answer.{Answer}
use Rattle.protocol.specs.Phase.{call_open, is_stopped, runs}
use Rattle.state.specs.State.{resumed}
use Rattle.state.specs.Answer.{quiet, refused_answer}
use Rattle.machine.specs.Step.{timetable_of, swap, resume, tick_move, zero_at, status_move}
use Rattle.machine.specs.Guard.{guard_of}
use Rattle.state.specs.Start.{if_accepted}
use Rattle.machine.specs.Machine.{tick_of, status_verdict, status_of}
use Rattle.history.specs.Reached.{Event, tick, status, move_of}
use Rattle.history.specs.History.{History, answer_of, machine_of, go_on, next}
use Rattle.machine.proofs.StepLaws.{status_zero}
use Rattle.machine.proofs.GuardLaws.{guard_stopped, guard_accepted}
use Rattle.machine.proofs.MachineLaws.{tick_refused, tick_accepted, status_refused, status_unasked, status_accepted}
use Rattle.history.specs.Cases.{TickCase, window_goes_on, window_ends, wrong_tick, tick_in_a_switch, tick_too_late, StatusCase, saved, programmed, runs_again, bad_status, status_unasked_for, status_too_late}
use Rattle.history.proofs.Cases.{tick_case, status_case}
use Rattle.machine.proofs.FitsLaws.{Fits, fits_says}

-- a step by itself refuses nothing
pub step_accepts : (p : Plan) (s : State) (e : Event) → (move_of p s e).verdict ≡ accepted
step_accepts p s (tick t) = of (tick_case (timetable_of p) s t)
  where
    of : TickCase (timetable_of p) s t → (tick_move (timetable_of p) s t).verdict ≡ accepted
    of (window_goes_on e due more to) = ap (λ (x : Answer). x.verdict) to
    of (window_ends e due last to) = ap (λ (x : Answer). x.verdict) to
    of (wrong_tick e wrong to) = ap (λ (x : Answer). x.verdict) to
    of (tick_in_a_switch stage e waits to) = ap (λ (x : Answer). x.verdict) to
    of (tick_too_late stage cause e to) = ap (λ (x : Answer). x.verdict) to
step_accepts p s (status word) = of (status_case p.windows s word)
  where
    of : StatusCase p.windows s word → (status_move p.windows s word).verdict ≡ accepted
    of (saved e zero to) = ap (λ (x : Answer). x.verdict) to
    of (programmed e zero to) = ap (λ (x : Answer). x.verdict) to
    of (runs_again e zero to) = ap (λ (x : Answer). x.verdict) to
    of (bad_status stage e waits bad to) = ap (λ (x : Answer). x.verdict) to
    of (status_unasked_for e to) = ap (λ (x : Answer). x.verdict) to
    of (status_too_late stage cause e to) = ap (λ (x : Answer). x.verdict) to

-- a refusal hands back the state that came and asks for nothing, whatever came
refused_back : (v : Verdict) (s : State) (to : Answer) (r : Refusal) → to.verdict ≡ accepted → (if_accepted v s to).verdict ≡ Err r
    → if_accepted v s to ≡ refused_answer s (Err r)
unfolding if_accepted
refused_back (Ok _) s to r fine e = absurd (never_both (sym fine ∙ e))
refused_back (Err x) s to r fine e = ap (refused_answer s) e

pub refused_changes_nothing : (p : Plan) (s : State) (e : Event) (r : Refusal) → (answer_of p s e).verdict ≡ Err r
    → answer_of p s e ≡ refused_answer s (Err r)
unfolding tick_of status_of
refused_changes_nothing p s (tick t) r e = refused_back (guard_of p s) s (tick_move (timetable_of p) s t) r (step_accepts p s (tick t)) e
refused_changes_nothing p s (status word) r e = refused_back (status_verdict p s) s (status_move p.windows s word) r (step_accepts p s (status word)) e

-- and leaves no trace
no_trace : (h : History) (e : Event) (r : Refusal) → go_on h e (refused_answer h.state (Err r)) ≡ h
no_trace h (tick t) r = refl
no_trace h (status word) r = refl

pub refused_not_counted : (p : Plan) (h : History) (e : Event) (r : Refusal) → (answer_of p h.state e).verdict ≡ Err r → next (machine_of p) h e ≡ h
refused_not_counted p h e r refusal = ap (go_on h e) (refused_changes_nothing p h.state e r refusal) ∙ no_trace h e r

module _ (p : Plan) (a : plan.AcceptedIf p) (s : State) (f : Fits p s) where
  goes : {stage : Stage} → s.phase ≡ At stage → guard_of p s ≡ accepted
  goes e = guard_accepted p s (all_accepted p a) ((fits_says p s).1 f) (ap is_stopped e)

  pub too_late : {stage : Stage} {cause : Cause} → s.phase ≡ Stopped stage cause → (e : Event)
      → answer_of p s e ≡ refused_answer s (Err MachineStopped)
  too_late e (tick t) = tick_refused p s t MachineStopped (guard_stopped p s (all_accepted p a) ((fits_says p s).1 f) (ap is_stopped e))
  too_late e (status word) = status_refused p s word MachineStopped (guard_stopped p s (all_accepted p a) ((fits_says p s).1 f) (ap is_stopped e))

  pub on_tick : {stage : Stage} → s.phase ≡ At stage → (t : ℕ) → {to : Answer} → tick_move (timetable_of p) s t ≡ to
      → tick_of p s t ≡ to
  on_tick e t to = tick_accepted p s t (goes e) ∙ to

  pub on_status : {stage : Stage} → s.phase ≡ At stage → call_open stage ≡ true → (word : ℕ) → {to : Answer} → status_move p.windows s word ≡ to
      → status_of p s word ≡ to
  on_status {stage} e waits word to =
      status_accepted p s word (goes e) (ap runs e ∙ not_waiting) ∙ to
    where
      not_waiting : runs (At stage) ≡ false
      not_waiting = rw waits

  pub unasked : s.phase ≡ At Running → (word : ℕ) → status_of p s word ≡ refused_answer s (Err NoCallOpen)
  unasked e word = status_unasked p s word (goes e) (ap runs e)

  -- a zero for each of the three calls
  pub zero_swaps : s.phase ≡ At SaveCtx → status_of p s 0 ≡ swap p.windows s
  unfolding zero_at
  zero_swaps e = on_status e refl 0 (status_zero p.windows s 0 SaveCtx e refl refl)

  pub zero_resumes : s.phase ≡ At ProgramRegions → status_of p s 0 ≡ resume p.windows s
  unfolding zero_at
  zero_resumes e = on_status e refl 0 (status_zero p.windows s 0 ProgramRegions e refl refl)

  pub zero_runs : s.phase ≡ At Resume → status_of p s 0 ≡ quiet (resumed s)
  unfolding zero_at
  zero_runs e = on_status e refl 0 (status_zero p.windows s 0 Resume e refl refl)
