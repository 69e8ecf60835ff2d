-- When a lookup accepts; and its three answers, by the frame's verdict and the tick.
-- Assumes nothing.
use mathlib.Core.Logic.{◌↔◌}
use mathlib.Core.Path.{◌≡◌}
use Prim.Native.Nat.{ℕ, ◌≤◌, ◌<◌}
use borrow.Author.Tests.{le-leb, lt-leb, leb-false}
use Rattle.refusal.specs.declared.Refusal.{Refusal}
use Rattle.refusal.specs.declared.Refusal.TheVariants.{TickPastFrame}
use Rattle.refusal.specs.Verdict.{Verdict, accepted}
use Rattle.std.specs.Prelude.{Err}
use Rattle.refusal.specs.First.{refuse_if, or_else}
use Rattle.verdict.proofs.First.{both_accept, refuses_if}
use Rattle.timeline.specs.Lookup.{lookup_verdict, looked_up}

-- it accepts exactly if the frame is accepted and the tick is in it
pub lookup_accepts : (frame : Verdict) (frame_length t : ℕ)
    → (lookup_verdict frame frame_length t ≡ accepted) ↔ ((frame ≡ accepted) × (t < frame_length))
unfolding lookup_verdict
lookup_accepts frame frame_length t =
    simp (both_accept, refuses_if) (
      λ e. (e.0, leb-false frame_length t e.1),
      λ h. (h.0, lt-leb frame_length t h.1),
    )

module _ {A : Type 0} (answer : ℕ → Verdict → A) (frame : Verdict) (frame_length t window : ℕ) where
  pub refused : (r : Refusal) → frame ≡ Err r → looked_up answer (lookup_verdict frame frame_length t) window ≡ answer 0 (Err r)
  unfolding lookup_verdict or_else
  refused r e = rw e

  pub past : frame ≡ accepted → frame_length ≤ t
      → looked_up answer (lookup_verdict frame frame_length t) window ≡ answer 0 (Err TickPastFrame)
  unfolding lookup_verdict or_else refuse_if
  past e h = rw (e, le-leb frame_length t h)

  pub found : frame ≡ accepted → t < frame_length → looked_up answer (lookup_verdict frame frame_length t) window ≡ answer window accepted
  unfolding lookup_verdict or_else refuse_if
  found e h = rw (e, lt-leb frame_length t h)
