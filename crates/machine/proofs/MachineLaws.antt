-- The answers of the entry points, by what the guard says.
-- Assumes nothing.
use mathlib.Core.Bool.{Bool, true, false, not}
use mathlib.Core.Path.{◌≡◌, refl, sym, ap, ◌∙◌}
use Prim.Native.Nat.{ℕ}
use Rattle.refusal.specs.declared.Refusal.{Refusal}
use Rattle.refusal.specs.declared.Refusal.TheVariants.{NoCallOpen}
use Rattle.refusal.specs.Verdict.{accepted}
use Rattle.std.specs.Prelude.{Err}
use Rattle.refusal.specs.First.{refuse_if, or_else}
use Rattle.plan.specs.Plan.{Plan}
use Rattle.protocol.specs.declared.Phase.TheVariants.{At}
use Rattle.protocol.specs.Phase.{call_open, runs, stage_of}
use Rattle.state.specs.declared.State.{State}
use Rattle.state.specs.Answer.{refused_answer}
use Rattle.machine.specs.Step.{timetable_of, tick_at, tick_move, status_at, status_move}
use Rattle.machine.specs.Guard.{guard_of}
use Rattle.state.specs.Start.{if_accepted}
use Rattle.machine.specs.Machine.{tick_of, status_verdict, status_of}
use Rattle.machine.proofs.StepLaws.{tick_at_lem, at_unasked, status_at_lem}
use Rattle.machine.proofs.GuardLaws.{at_its_stage}

module _ (p : Plan) (s : State) where
  pub tick_refused : (t : ℕ) (r : Refusal) → guard_of p s ≡ Err r → tick_of p s t ≡ refused_answer s (Err r)
  unfolding tick_of if_accepted
  tick_refused t r e = rw e

  pub tick_accepted : (t : ℕ) → guard_of p s ≡ accepted → tick_of p s t ≡ tick_move (timetable_of p) s t
  unfolding tick_of if_accepted
  tick_accepted t e = rw e

  pub status_refused : (word : ℕ) (r : Refusal) → guard_of p s ≡ Err r → status_of p s word ≡ refused_answer s (Err r)
  unfolding status_of status_verdict or_else if_accepted
  status_refused word r e = rw e

  pub status_unasked : (word : ℕ) → guard_of p s ≡ accepted → runs s.phase ≡ true
      → status_of p s word ≡ refused_answer s (Err NoCallOpen)
  unfolding status_of status_verdict or_else refuse_if if_accepted
  status_unasked word e running = rw (e, running)

  pub status_accepted : (word : ℕ) → guard_of p s ≡ accepted → runs s.phase ≡ false
      → status_of p s word ≡ status_move p.windows s word
  unfolding status_of status_verdict or_else refuse_if if_accepted
  status_accepted word e waits = rw (e, waits)

  -- the step, at the stage that the guard hands out
  pub tick_let_in : (t : ℕ) → guard_of p s ≡ accepted → tick_of p s t ≡ tick_at (timetable_of p) s (stage_of s.phase) t
  tick_let_in t e = tick_accepted t e ∙ tick_at_lem (timetable_of p) s t _ (at_its_stage p s e)

  pub status_let_in : (word : ℕ) → guard_of p s ≡ accepted → status_of p s word ≡ status_at p.windows s (stage_of s.phase) word
  status_let_in word e = of (call_open (stage_of s.phase)) refl
    where
      at : s.phase ≡ At (stage_of s.phase)
      at = at_its_stage p s e

      of : (asks : Bool) → call_open (stage_of s.phase) ≡ asks → status_of p s word ≡ status_at p.windows s (stage_of s.phase) word
      of true waits = status_accepted word e (ap runs at ∙ ap not waits) ∙ status_at_lem p.windows s word _ at waits
      of false running = status_unasked word e (ap runs at ∙ ap not running) ∙ sym (at_unasked p.windows s word _ running)
