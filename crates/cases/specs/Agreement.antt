-- For four windows with owners below 16, the plan's verdict (yes or no) and its window agree with the four-window port on the same
-- numbers (document 01, "What is ported", 4).
use Rattle.std.specs.Prelude.{List, [], ◌∷◌, ◌↔◌, ◌≡◌, ℕ, ◌<◌}
use Rattle.refusal.specs.Verdict.{accepted}
use Rattle.major_frame.specs.declared.MajorFrame.{MajorFrame}
use Rattle.major_frame.specs.Frame.{partition_at, offset_at, budget_at, frame_verdict, current_window}
use Rattle.plan.specs.Plan.{Plan, plan_of}
use Rattle.plan.specs.Faults.{verdict_of}
use Rattle.lookup.specs.Lookup.{lookup_of}

-- the four windows as a plan's list
unfoldable pub windows_of : MajorFrame → List ℕ
windows_of f =
    partition_at f 0 ∷ offset_at f 0 ∷ budget_at f 0 ∷ partition_at f 1 ∷ offset_at f 1 ∷ budget_at f 1
    ∷ partition_at f 2 ∷ offset_at f 2 ∷ budget_at f 2 ∷ partition_at f 3 ∷ offset_at f 3 ∷ budget_at f 3 ∷ []

-- the same numbers as a plan, which has no rows
abbrev pub as_plan : MajorFrame → Plan
as_plan f = plan_of (record { length = f.frame_len }) (windows_of f) []

pub record Agrees (f : MajorFrame) : Type 0 where
  pub verdict : (verdict_of (as_plan f) ≡ accepted) ↔ (frame_verdict f ≡ accepted)
  pub lookup_verdict_lem : (t : ℕ) → ((lookup_of (as_plan f) t).verdict ≡ accepted) ↔ ((current_window f t).verdict ≡ accepted)
  pub window : (t : ℕ) → (lookup_of (as_plan f) t).window.0 ≡ (current_window f t).window

abbrev pub OwnersInRange : MajorFrame → Type 0
OwnersInRange f = (i : ℕ) → i < 4 → partition_at f i < 16

abbrev pub Agreement : Type 0
Agreement = (f : MajorFrame) → OwnersInRange f → Agrees f
