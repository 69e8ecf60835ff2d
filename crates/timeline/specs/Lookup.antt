-- A lookup asks which window a tick falls in. It gives the frame's refusal, else 12 for a tick not below the frame length, and
-- answers 0 where it refuses (document 01, "Refusal numbers and their place"). Over any frame's verdict and any window found.
use Rattle.std.specs.Prelude.{ℕ, leb}
use Rattle.refusal.specs.declared.Refusal.TheVariants.{TickPastFrame}
use Rattle.refusal.specs.Verdict.{Verdict}
use Rattle.refusal.specs.First.{refuse_if, or_else}
use Rattle.verdict.specs.First.{unless_refused}

unfoldable pub lookup_verdict : Verdict → (frame_length t : ℕ) → Verdict
lookup_verdict frame frame_length t = or_else frame (refuse_if (leb frame_length t) TickPastFrame)

-- with the window, in the record that a frame's lookup answers
abbrev pub looked_up : {A : Type 0} → (ℕ → Verdict → A) → Verdict → ℕ → A
looked_up answer lookup window = answer (unless_refused lookup window 0) lookup
