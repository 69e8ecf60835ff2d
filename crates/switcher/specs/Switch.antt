-- The switcher of the original, src/partition_switch.rs: `inv`, `boundary`, and what each function does to a state, refusals
-- as document 01 orders them: the frame's 2, 3 or 5, then 17 where `inv` is false.
use Rattle.std.specs.Prelude.{Bool, true, false, not, cond, ◌&&◌, List, [], ◌∷◌, ◌≡◌, ℕ, ◌+◌, ◌<◌, eqb, ltb}
use Rattle.refusal.specs.declared.Refusal.TheVariants.{StrangeState}
use Rattle.refusal.specs.Verdict.{Verdict, accepted}
use Rattle.std.specs.Prelude.{Ok, Err}
use Rattle.refusal.specs.First.{refuse_if, or_else}
use Rattle.timeline.specs.Windows.{next_window}
use Rattle.major_frame.specs.declared.MajorFrame.{MajorFrame}
use Rattle.major_frame.specs.Frame.{FrameInv, win_end, frame_verdict}
use Rattle.protocol.specs.declared.Stage.{Stage}
use Rattle.protocol.specs.declared.Stage.TheVariants.{Running, SaveCtx, ProgramRegions, Resume}
use Rattle.protocol.specs.Numbers.{stage_number}
use Rattle.switcher.specs.declared.Switcher.{Switcher}
use Rattle.switcher.specs.declared.Made.{Made}
use Rattle.switcher.specs.declared.Stepped.{Stepped}

-- `inv`, conjunct by conjunct
pub record Inv (s : Switcher) : Type 0 where
  pub frame_inv : FrameInv s.frame
  pub cur_is_window : s.cur < 4
  pub resume_is_swapped : s.phase ≡ Resume → s.swapped ≡ true
  pub save_is_not_swapped : s.phase ≡ SaveCtx → s.swapped ≡ false
  pub program_is_not_swapped : s.phase ≡ ProgramRegions → s.swapped ≡ false

-- `boundary`: t is the last tick of the current window
abbrev pub Boundary : Switcher → ℕ → Type 0
Boundary s t = t + 1 ≡ win_end s.frame s.cur

-- the two are one phase
unfoldable pub in_phase : Stage → Stage → Bool
in_phase p q = eqb (stage_number p) (stage_number q)

-- what `inv` asks of the mark
abbrev pub mark_fits : Stage → Bool → Bool
mark_fits Running mark = true
mark_fits SaveCtx mark = not mark
mark_fits ProgramRegions mark = not mark
mark_fits Resume mark = mark

-- the frame's refusal, else 17 for a window past the last or a mark that does not fit
unfoldable pub state_verdict : Switcher → Verdict
state_verdict s =
    or_else (or_else (frame_verdict s.frame) (refuse_if (not (ltb s.cur 4)) StrangeState))
    (refuse_if (not (mark_fits s.phase s.swapped)) StrangeState)

-- `tick` fires: at the window's last tick, Running
unfoldable pub at_boundary : Switcher → ℕ → Bool
at_boundary s t = eqb (t + 1) (win_end s.frame s.cur) && in_phase s.phase Running

-- the makers: every state that a function answers and did not get is one of these
abbrev pub started : MajorFrame → Switcher
started f = record { frame = f; cur = 0; phase = Running; swapped = false }

abbrev pub zeros : Switcher
zeros =
    let none : List ℕ = 0 ∷ 0 ∷ 0 ∷ 0 ∷ [] in
    started (record { partition_id = none; offset = none; budget = none; frame_len = 0 })

abbrev pub moved : Switcher → ℕ → Stage → Bool → Switcher
moved s cur phase mark = record { frame = s.frame; cur = cur; phase = phase; swapped = mark }

abbrev pub preempted : Switcher → Switcher
preempted s = moved s s.cur SaveCtx false

abbrev pub saved : Switcher → Switcher
saved s = moved s s.cur ProgramRegions s.swapped

abbrev pub swapped_in : Switcher → Switcher
swapped_in s = moved s s.cur Resume true

abbrev pub resumed : Switcher → Switcher
resumed s = moved s (next_window 4 s.cur) Running s.swapped

-- `new`: window 0, Running, the mark false; a refused frame gives zeros
unfoldable pub made : Verdict → MajorFrame → Made
made (Ok _) f = record { state = started f; verdict = accepted }
made (Err r) f = record { state = zeros; verdict = Err r }

unfoldable pub new_of : MajorFrame → Made
new_of f = made (frame_verdict f) f

-- a refused state comes back as it came; an accepted one moves on if the step is due
abbrev pub moves : Verdict → (due : Bool) → Bool
moves (Ok _) due = due
moves (Err r) due = false

unfoldable pub stepped : Verdict → (state next : Switcher) → (due : Bool) → Stepped
stepped v s next due = record { state = cond (moves v due) next s; done = moves v due; verdict = v }

abbrev pub tick_of : Switcher → ℕ → Stepped
tick_of s t = stepped (state_verdict s) s (preempted s) (at_boundary s t)

abbrev pub mark_saved_of : Switcher → Stepped
mark_saved_of s = stepped (state_verdict s) s (saved s) (in_phase s.phase SaveCtx)

abbrev pub mark_swapped_of : Switcher → Stepped
mark_swapped_of s = stepped (state_verdict s) s (swapped_in s) (in_phase s.phase ProgramRegions)

abbrev pub mark_resumed_of : Switcher → Stepped
mark_resumed_of s = stepped (state_verdict s) s (resumed s) (in_phase s.phase Resume)
