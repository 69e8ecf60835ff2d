-- What the guard says, by its tests.
-- Assumes nothing.
use mathlib.Core.Bool.{true, false, true≢false}
use mathlib.Core.Path.{◌≡◌, refl, ◌∙◌}
use Rattle.refusal.specs.declared.Refusal.{Refusal}
use Rattle.refusal.specs.declared.Refusal.TheVariants.{MachineStopped, StrangeState}
use Rattle.refusal.specs.Verdict.{accepted}
use Rattle.std.specs.Prelude.{Err}
use Rattle.refusal.specs.First.{refuse_if, or_else}
use Rattle.verdict.proofs.First.{refuses_if, both_accept}
use Rattle.plan.specs.Plan.{Plan, window_count}
use Rattle.plan.specs.Faults.{verdict_of}
use Rattle.protocol.specs.declared.Phase.{Phase}
use Rattle.protocol.specs.declared.Phase.TheVariants.{At, Stopped}
use Rattle.protocol.specs.Phase.{is_stopped, stage_of}
use Rattle.state.specs.declared.State.{State}
use Rattle.machine.specs.Guard.{fits, state_verdict, guard_of}

module _ (p : Plan) (s : State) where
  pub guard_plan : (r : Refusal) → verdict_of p ≡ Err r → guard_of p s ≡ Err r
  unfolding guard_of or_else
  guard_plan r e = rw e

  -- once the plan is accepted
  pub guard_state : verdict_of p ≡ accepted → guard_of p s ≡ state_verdict (fits (window_count p) p.windows s) s.phase
  unfolding guard_of or_else
  guard_state e = rw e

  pub guard_strange : verdict_of p ≡ accepted → fits (window_count p) p.windows s ≡ false → guard_of p s ≡ Err StrangeState
  unfolding state_verdict or_else refuse_if
  guard_strange e strange = guard_state e ∙ rw strange

  pub guard_stopped : verdict_of p ≡ accepted → fits (window_count p) p.windows s ≡ true → is_stopped s.phase ≡ true
      → guard_of p s ≡ Err MachineStopped
  unfolding state_verdict or_else refuse_if
  guard_stopped e fit stop = guard_state e ∙ rw (fit, stop)

  pub guard_accepted : verdict_of p ≡ accepted → fits (window_count p) p.windows s ≡ true → is_stopped s.phase ≡ false
      → guard_of p s ≡ accepted
  unfolding state_verdict or_else refuse_if
  guard_accepted e fit goes = guard_state e ∙ rw (fit, goes)

  pub plan_accepted : guard_of p s ≡ accepted → verdict_of p ≡ accepted
  unfolding guard_of
  plan_accepted e = ((both_accept (verdict_of p) _).0 e).0

  -- what is let in is at the stage that is handed out
  pub at_its_stage : guard_of p s ≡ accepted → s.phase ≡ At (stage_of s.phase)
  unfolding guard_of state_verdict
  at_its_stage e = of s.phase ((refuses_if _ _).0 ((both_accept _ _).0 ((both_accept (verdict_of p) _).0 e).1).1)
    where
      of : (phase : Phase) → is_stopped phase ≡ false → phase ≡ At (stage_of phase)
      of (At stage) goes = refl
      of (Stopped stage cause) stops = absurd (true≢false stops)
