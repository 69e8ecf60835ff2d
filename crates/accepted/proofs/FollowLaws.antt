-- The windows of an accepted plan follow one another; so every tick below the frame length is in exactly one of them.
-- Assumes nothing.
use Prim.Native.Nat.{ℕ, ◌<◌}
use Rattle.timeline.specs.Windows.{Follow, OnlyWindow, window_at}
use Rattle.timeline.proofs.Laws.{exactly_one}
use Rattle.plan.specs.Plan.{Plan, frame_length, window_count, offset_of, budget_of}
use Rattle.accepted.specs.Accepted as declared

module _ (p : Plan) where
  pub follow : declared.AcceptedIf p → Follow (window_count p) (offset_of p) (budget_of p) (frame_length p)
  follow a =
      record {
        one_at_least = a.counts.one_window_at_least;
        first_starts_at_zero = a.first_starts_at_zero;
        budgets_are_positive = a.budgets_are_positive;
        starts_where_one_before_ends = a.starts_where_one_before_ends;
        last_end_is_frame_length = a.last_end_is_frame_length;
      }

  pub one_window : declared.AcceptedIf p → (t : ℕ) → t < frame_length p
      → OnlyWindow (window_count p) (offset_of p) (budget_of p) t (window_at (window_count p) (offset_of p) (budget_of p) t)
  one_window a t h = exactly_one (follow a) t h
