-- The three answers of a lookup; for an accepted plan every tick below the frame length is in exactly one window, and the lookup answers it.
-- Assumes nothing.
use mathlib.Core.Path.{◌≡◌, refl, ap}
use Prim.Native.Nat.{ℕ, ◌≤◌, ◌<◌}
use Rattle.refusal.specs.declared.Refusal.{Refusal}
use Rattle.refusal.specs.declared.Refusal.TheVariants.{TickPastFrame}
use Rattle.refusal.specs.Verdict.{accepted}
use Rattle.std.specs.Prelude.{Err}
use Rattle.timeline.specs.Windows.{OnlyWindow, window_at}
use Rattle.timeline.specs.Lookup.{lookup_verdict}
use Rattle.timeline.proofs.Lookup as lookup
use Rattle.plan.specs.Plan.{Plan, frame_length, window_count, offset_of, budget_of}
use Rattle.plan.specs.Faults.{verdict_of}
use Rattle.accepted.specs.Accepted as declared
use Rattle.accepted.proofs.AcceptedLaws.{all_accepted}
use Rattle.accepted.proofs.FollowLaws.{one_window}
use Rattle.lookup.specs.Lookup.{located, lookup_of}

module _ (p : Plan) where
  pub lookup_refused : (t : ℕ) (r : Refusal) → verdict_of p ≡ Err r → lookup_of p t ≡ located 0 (Err r)
  unfolding lookup_of
  lookup_refused t = lookup.refused located _ _ t _

  pub lookup_past : (t : ℕ) → verdict_of p ≡ accepted → frame_length p ≤ t → lookup_of p t ≡ located 0 (Err TickPastFrame)
  unfolding lookup_of
  lookup_past t = lookup.past located _ _ t _

  pub lookup_found : (t : ℕ) → verdict_of p ≡ accepted → t < frame_length p
      → lookup_of p t ≡ located (window_at (window_count p) (offset_of p) (budget_of p) t) accepted
  unfolding lookup_of
  lookup_found t = lookup.found located _ _ t _

  pub lookup_verdict_lem : (t : ℕ) → (lookup_of p t).verdict ≡ lookup_verdict (verdict_of p) (frame_length p) t
  unfolding lookup_of
  lookup_verdict_lem t = refl

  -- for an accepted plan the lookup accepts each tick below the frame length, and answers the only window that holds it
  pub lookup_answers : declared.AcceptedIf p → (t : ℕ) → t < frame_length p
      → ((lookup_of p t).verdict ≡ accepted) × OnlyWindow (window_count p) (offset_of p) (budget_of p) t (lookup_of p t).window.0
  lookup_answers a t h =
      let found = lookup_found t (all_accepted p a) h in
      (ap (λ l. l.verdict) found, rw found (one_window p a t h))
