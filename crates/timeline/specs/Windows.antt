-- Windows that follow one another: window 0 starts at 0, each later one where the one before ends, every budget is positive,
-- the last end is the frame length (document 01, "A plan"). Over any number of windows, any offsets and any budgets.
use Rattle.std.specs.Prelude.{Bool, cond, ◌&&◌, ◌≡◌, ℕ, zero, suc, ◌+◌, ◌*◌, ◌/◌, ◌%◌, ◌≤◌, ◌<◌, leb, ltb}

pub record Follow (n : ℕ) (offset budget : ℕ → ℕ) (frame_length : ℕ) : Type 0 where
  pub one_at_least : 0 < n
  pub first_starts_at_zero : offset 0 ≡ 0
  pub budgets_are_positive : (i : ℕ) → i < n → 0 < budget i
  pub starts_where_one_before_ends : (i : ℕ) → suc i < n → offset (suc i) ≡ offset i + budget i
  pub last_end_is_frame_length : (i : ℕ) → suc i ≡ n → offset i + budget i ≡ frame_length

-- tick t is in window i
pub record Holds (offset budget : ℕ → ℕ) (i t : ℕ) : Type 0 where
  pub started : offset i ≤ t
  pub not_ended : t < offset i + budget i

-- window i is the only one of n that holds tick t
pub record OnlyWindow (n : ℕ) (offset budget : ℕ → ℕ) (t i : ℕ) : Type 0 where
  pub is_window : i < n
  pub holds : Holds offset budget i t
  pub no_other : (j : ℕ) → j < n → Holds offset budget j t → j ≡ i

-- `Holds` as a test
unfoldable pub holdsb : (ℕ → ℕ) → (ℕ → ℕ) → ℕ → ℕ → Bool
holdsb offset budget i t = leb (offset i) t && ltb t (offset i + budget i)

-- the window of n that holds t, 0 where none does
unfoldable pub window_at : ℕ → (ℕ → ℕ) → (ℕ → ℕ) → ℕ → ℕ
window_at zero offset budget t = 0
window_at (suc n) offset budget t = cond (holdsb offset budget n t) n (window_at n offset budget t)

-- how many windows have ended after N ticks, frame after frame
unfoldable pub windows_ended : ℕ → (ℕ → ℕ) → (ℕ → ℕ) → (frame_length N : ℕ) → ℕ
windows_ended n offset budget frame_length N = N / frame_length * n + window_at n offset budget (N % frame_length)

-- what follows n of 0 to `count` - 1, that come round: 0 after the last
unfoldable pub next_of : (count n : ℕ) → ℕ
next_of count n = cond (ltb (suc n) count) (suc n) 0

-- the window after i, window 0 after the last
abbrev pub next_window : (n i : ℕ) → ℕ
next_window n i = next_of n i

-- the tick after t, 0 after the frame's end
abbrev pub next_tick : (frame_length t : ℕ) → ℕ
next_tick frame_length t = next_of frame_length t
