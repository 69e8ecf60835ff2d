-- The answers of the entry points, by the verdict: a refusal, with the state as it came, or the step.
-- Assumes nothing.
use mathlib.Core.Path.{◌≡◌}
use Rattle.refusal.specs.declared.Refusal.{Refusal}
use Rattle.refusal.specs.Verdict.{accepted}
use Rattle.std.specs.Prelude.{Err}
use Rattle.plan.specs.Plan.{Plan}
use Rattle.plan.specs.Faults.{verdict_of}
use Rattle.state.specs.State.{zeros}
use Rattle.state.specs.Answer.{refused_answer}
use Rattle.state.specs.Start.{if_accepted, cold_move, cold_of}

module _ (p : Plan) where
  pub cold_refused : (r : Refusal) → verdict_of p ≡ Err r → cold_of p ≡ refused_answer zeros (Err r)
  unfolding cold_of if_accepted
  cold_refused r e = rw e

  pub cold_accepted : verdict_of p ≡ accepted → cold_of p ≡ cold_move p.windows
  unfolding cold_of if_accepted
  cold_accepted e = rw e
