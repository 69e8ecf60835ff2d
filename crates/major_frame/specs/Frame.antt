-- The major frame of the original, src/partition_switch.rs: `win_end`, `frame_inv`, `in_window`; and the verdict and the
-- window that document 01 gives for it ("What is ported", 2; "Refusal numbers and their place").
use Rattle.std.specs.Prelude.{not, Result, Ok, Err, ◌≡◌, ℕ, zero, suc, ◌+◌, ◌≤◌, ◌<◌, eqb, get_or}
use Rattle.refusal.specs.declared.Refusal.{Refusal}
use Rattle.refusal.specs.declared.Refusal.TheVariants.{ZeroBudget, WrongStart, WrongLength}
use Rattle.refusal.specs.Verdict.{Verdict, accepted}
use Rattle.refusal.specs.First.{refuse_if, or_else}
use Rattle.verdict.specs.First.{first_fault}
use Rattle.timeline.specs.declared.Located.{Located}
use Rattle.timeline.specs.Windows.{window_at}
use Rattle.timeline.specs.Lookup.{lookup_verdict, looked_up}
use Rattle.major_frame.specs.declared.MajorFrame.{MajorFrame}

abbrev pub partition_at : MajorFrame → ℕ → ℕ
partition_at f i = get_or f.partition_id i 0

abbrev pub offset_at : MajorFrame → ℕ → ℕ
offset_at f i = get_or f.offset i 0

abbrev pub budget_at : MajorFrame → ℕ → ℕ
budget_at f i = get_or f.budget i 0

-- `win_end`: the exclusive end of window i
abbrev pub win_end : MajorFrame → ℕ → ℕ
win_end f i = offset_at f i + budget_at f i

-- `frame_inv`, conjunct by conjunct
pub record FrameInv (f : MajorFrame) : Type 0 where
  pub first_offset : offset_at f 0 ≡ 0
  pub budget_0 : 0 < budget_at f 0
  pub budget_1 : 0 < budget_at f 1
  pub budget_2 : 0 < budget_at f 2
  pub budget_3 : 0 < budget_at f 3
  pub end_0 : win_end f 0 ≡ offset_at f 1
  pub end_1 : win_end f 1 ≡ offset_at f 2
  pub end_2 : win_end f 2 ≡ offset_at f 3
  pub end_3 : win_end f 3 ≡ f.frame_len

-- `in_window`: tick t falls inside window i
pub record InWindow (f : MajorFrame) (i t : ℕ) : Type 0 where
  pub is_window : i < 4
  pub started : offset_at f i ≤ t
  pub not_ended : t < win_end f i

-- document 01: each window is tested for 2, then 3
unfoldable pub window_fault : ℕ → ℕ → ℕ → ℕ → Verdict
window_fault i start offset budget =
    or_else (refuse_if (eqb budget 0) (ZeroBudget i)) (refuse_if (not (eqb offset start)) (WrongStart i))

-- where window i has to start: at 0, or where the one before ends
abbrev pub start_of : MajorFrame → ℕ → ℕ
start_of f zero = 0
start_of f (suc i) = win_end f i

unfoldable pub window_test : MajorFrame → ℕ → Verdict
window_test f i = window_fault i (start_of f i) (offset_at f i) (budget_at f i)

unfoldable pub length_test : MajorFrame → Verdict
length_test f = refuse_if (not (eqb (win_end f 3) f.frame_len)) (WrongLength 3)

-- windows upward, then 5 at the last window
unfoldable pub frame_verdict : MajorFrame → Verdict
frame_verdict f = or_else (first_fault (window_test f) 0 4) (length_test f)

-- what a lookup answers: the window that holds the tick, and the verdict
abbrev pub located : ℕ → Verdict → Located ℕ
located window verdict = record { window = window; verdict = verdict }

-- the same of a window that was found or refused
abbrev pub answer_of : Result ℕ Refusal → Located ℕ
answer_of (Ok window) = located window accepted
answer_of (Err r) = located 0 (Err r)

unfoldable pub current_window : MajorFrame → ℕ → Located ℕ
current_window f t =
    looked_up located (lookup_verdict (frame_verdict f) f.frame_len t) (window_at 4 (offset_at f) (budget_at f) t)
