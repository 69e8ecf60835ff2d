-- A plan is what is lent: a frame, a list of windows and a list of rows (document 01, "A plan": 1 to 64 windows, 0 to 128 rows).
use Rattle.std.specs.Prelude.{List, ◌≡◌, ℕ, ◌*◌, ◌/◌, ◌≤◌, ◌<◌, length}
use Rattle.records.specs.declared.Window.{Window}
use Rattle.records.specs.declared.Row.{Row}
use Rattle.records.specs.Records.{nth_window, nth_row, offset_in, budget_in}
use Rattle.rows.specs.Rows.{max_rows, rows_of}
use Rattle.plan.specs.declared.Frame.{Frame}

pub record Plan : Type 0 where
  pub frame : Frame
  pub windows : List ℕ
  pub rows : List ℕ

-- a frame of that length
abbrev pub frame_of : (length : ℕ) → Frame
frame_of length = record { length = length }

abbrev pub plan_of : Frame → List ℕ → List ℕ → Plan
plan_of frame windows rows = record { frame = frame; windows = windows; rows = rows }

abbrev pub max_windows : ℕ
max_windows = 64

abbrev pub frame_length : Plan → ℕ
frame_length p = p.frame.length

abbrev pub window_count : Plan → ℕ
window_count p = length p.windows / 3

abbrev pub row_count : Plan → ℕ
row_count p = length p.rows / 4

abbrev pub window_of : Plan → ℕ → Window
window_of p i = nth_window p.windows i

abbrev pub row_of : Plan → ℕ → Row
row_of p i = nth_row p.rows i

abbrev pub owner_of : Plan → ℕ → ℕ
owner_of p i = (window_of p i).owner.0

abbrev pub offset_of : Plan → ℕ → ℕ
offset_of p i = offset_in p.windows i

abbrev pub budget_of : Plan → ℕ → ℕ
budget_of p i = budget_in p.windows i

-- the rows of partition q, in table order
abbrev pub own_rows : Plan → ℕ → List Row
own_rows p q = rows_of p.rows q (row_count p)

-- both lists are whole records, not too few and not too many
pub record CountsInRange (p : Plan) : Type 0 where
  pub windows_whole : length p.windows ≡ window_count p * 3
  pub rows_whole : length p.rows ≡ row_count p * 4
  pub one_window_at_least : 0 < window_count p
  pub windows_at_most : window_count p ≤ max_windows
  pub rows_at_most : row_count p ≤ max_rows
