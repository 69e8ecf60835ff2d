-- Refusal 17 is exact: the guard lets in the states that events reach from a cold start, and no others.
-- Assumes nothing.
use mathlib.Core.Bool.{true}
use mathlib.Core.Logic.{◌↔◌}
use mathlib.Core.Path.{◌≡◌, subst}
use Prim.Native.Nat.{ℕ, ◌+◌, ◌≤◌, ◌<◌}
use native.Mathlib.Omega.{arith}
use Rattle.plan.specs.Plan.{Plan, frame_length, window_count}
use Rattle.accepted.specs.Accepted as plan
use Rattle.protocol.specs.Phase.{kept_word}
use Rattle.state.specs.declared.State.{State}
use Rattle.state.specs.Start.{cold_move}
use Rattle.machine.specs.Guard.{fits}
use Rattle.history.specs.Reached.{Reached, ReachedWithin}
use Rattle.machine.proofs.FitsLaws.{Fits, fits_says}
use Rattle.history.proofs.Preserved.{cold_fits, leads_fits}
use Rattle.history.proofs.Reach.{fits_reached}

module _ (p : Plan) (a : plan.AcceptedIf p) (s : State) where
  reached_fits : Reached p s → Fits p s
  unfolding cold_move
  reached_fits (events, there) = subst (Fits p) there (leads_fits p a _ (cold_fits p a) events)

  -- the test is true of exactly the states that some ticks and statuses lead to
  pub let_in_exactly : (fits (window_count p) p.windows s ≡ true) ↔ Reached p s
  let_in_exactly = (
    λ e. let (events, low, there) = fits_reached p a (frame_length p + kept_word s.phase + 1) (omega arith) s ((fits_says p s).0 e) (omega arith) in (events, there),
    λ r. (fits_says p s).1 (reached_fits r),
  )

  -- and words below a bound are enough if the frame and the word that a stop kept are: 2 ^ 32 for what can arrive
  pub let_in_by_words : (bound : ℕ) → frame_length p ≤ bound → kept_word s.phase < bound
      → (fits (window_count p) p.windows s ≡ true) ↔ ReachedWithin bound p s
  let_in_by_words bound long small =
      (λ e. fits_reached p a bound long s ((fits_says p s).0 e) small, λ r. (fits_says p s).1 (reached_fits (r.0, r.2)))
