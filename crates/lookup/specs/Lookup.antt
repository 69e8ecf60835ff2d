-- Which window a tick falls in: the one that holds it (document 01, "Refusal numbers and their place", 12, and "lookups answer 0").
use Rattle.std.specs.Prelude.{List, ℕ, ◌<◌, Result, Ok, Err}
use Rattle.refusal.specs.declared.Refusal.{Refusal}
use Rattle.refusal.specs.Verdict.{Verdict, accepted}
use Rattle.timeline.specs.Windows.{Follow, window_at}
use Rattle.timeline.specs.Lookup.{lookup_verdict, looked_up}
use Rattle.records.specs.Records.{offset_in, budget_in}
use Rattle.plan.specs.Plan.{Plan, frame_length, window_count, offset_of, budget_of}
use Rattle.plan.specs.Faults.{verdict_of}
use Rattle.timeline.specs.declared.Located.{Located}
use Rattle.records.specs.declared.WindowNo.{WindowNo}

abbrev pub located : ℕ → Verdict → Located WindowNo
located window verdict = record { window = record { 0 = window }; verdict = verdict }

-- a window that was found, or why none is
abbrev pub answered : Result WindowNo Refusal → Located WindowNo
answered (Ok window) = record { window = window; verdict = accepted }
answered (Err r) = located 0 (Err r)

unfoldable pub lookup_of : Plan → ℕ → Located WindowNo
lookup_of p t =
    looked_up located (lookup_verdict (verdict_of p) (frame_length p) t) (window_at (window_count p) (offset_of p) (budget_of p) t)

-- `count` windows follow one another, and tick t is before their end: what the search works on
pub record InFrame (windows : List ℕ) (count t : ℕ) : Type 0 where
  pub frame_length : ℕ
  pub follow : Follow count (offset_in windows) (budget_in windows) frame_length
  pub before_end : t < frame_length
