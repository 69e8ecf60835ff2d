-- The promises of the original, src/partition_switch.rs: one record for each function and one field for each clause, in the
-- order of the source. In `OriginalClauses` each stands behind what the source requires, under which the port accepts (outcome 0 at 0).
-- docs/CONTRACTS.md has a row a clause.
use Rattle.std.specs.Prelude.{true, false, [], ◌∷◌, ◌↔◌, ◌≡◌, ℕ, ◌+◌, ◌<◌}
use Rattle.refusal.specs.Verdict.{Verdict}
use Rattle.verdict.specs.Outcome.{outcome}
use Rattle.timeline.specs.Windows.{next_window, next_tick}
use Rattle.major_frame.specs.declared.MajorFrame.{MajorFrame}
use Rattle.timeline.specs.declared.Located.{Located}
use Rattle.major_frame.specs.Frame.{FrameInv, InWindow, win_end, frame_verdict, current_window}
use Rattle.protocol.specs.declared.Stage.TheVariants.{Running, SaveCtx, ProgramRegions, Resume}
use Rattle.switcher.specs.declared.Switcher.{Switcher}
use Rattle.switcher.specs.declared.Made.{Made}
use Rattle.switcher.specs.declared.Stepped.{Stepped}
use Rattle.run_switch.specs.declared.Switched.{Switched}
use Rattle.run_switch.specs.Seam.{calls_words}
use Rattle.switcher.specs.Switch.{Inv, Boundary, saved, swapped_in, resumed, new_of, tick_of, mark_saved_of, mark_swapped_of, mark_resumed_of}
use Rattle.run_switch.specs.RunSwitch.{outgoing_of, incoming_of, run_switch_of}

abbrev pub Accepts : Verdict → Type 0
Accepts v = outcome v ≡ (0, 0)

-- `check`, of the verdict that it answers
pub record Check (f : MajorFrame) (v : Verdict) : Type 0 where
  pub answers : Accepts v ↔ FrameInv f

-- `current_window`, of what it answers
pub record CurrentWindow (f : MajorFrame) (t : ℕ) (r : Located ℕ) : Type 0 where
  pub accepts : Accepts r.verdict
  pub is_window : r.window < 4
  pub holds : InWindow f r.window t
  pub no_other : (j : ℕ) → j < 4 → (j ≡ r.window → ⊥) → InWindow f j t → ⊥

-- `new`, of what it answers
pub record New (f : MajorFrame) (r : Made) : Type 0 where
  pub accepts : Accepts r.verdict
  pub inv : Inv r.state
  pub running : r.state.phase ≡ Running
  pub window_zero : r.state.cur ≡ 0
  pub frame_kept : r.state.frame ≡ f

-- `tick`, from the state s to the answer r
pub record Tick (s : Switcher) (t : ℕ) (r : Stepped) : Type 0 where
  pub accepts : Accepts r.verdict
  pub inv : Inv r.state
  pub frame_kept : r.state.frame ≡ s.frame
  pub cur_kept : r.state.cur ≡ s.cur
  pub switched : (r.done ≡ true) ↔ ((s.phase ≡ Running) × Boundary s t)
  pub at_boundary_lem : s.phase ≡ Running → Boundary s t → (r.state.phase ≡ SaveCtx) × (r.state.swapped ≡ false)
  pub off_boundary : s.phase ≡ Running → (Boundary s t → ⊥) → (r.state.phase ≡ Running) × (r.state.swapped ≡ s.swapped)
  pub not_running : (s.phase ≡ Running → ⊥) → (r.state.phase ≡ s.phase) × (r.state.swapped ≡ s.swapped)

pub record MarkSaved (s : Switcher) (r : Stepped) : Type 0 where
  pub accepts : Accepts r.verdict
  pub inv : Inv r.state
  pub frame_kept : r.state.frame ≡ s.frame
  pub cur_kept : r.state.cur ≡ s.cur
  pub swapped_kept : r.state.swapped ≡ s.swapped
  pub ok : (r.done ≡ true) ↔ (s.phase ≡ SaveCtx)
  pub steps : s.phase ≡ SaveCtx → r.state.phase ≡ ProgramRegions
  pub stays : (s.phase ≡ SaveCtx → ⊥) → r.state.phase ≡ s.phase

pub record MarkSwapped (s : Switcher) (r : Stepped) : Type 0 where
  pub accepts : Accepts r.verdict
  pub inv : Inv r.state
  pub frame_kept : r.state.frame ≡ s.frame
  pub cur_kept : r.state.cur ≡ s.cur
  pub ok : (r.done ≡ true) ↔ (s.phase ≡ ProgramRegions)
  pub steps : s.phase ≡ ProgramRegions → (r.state.phase ≡ Resume) × (r.state.swapped ≡ true)
  pub stays : (s.phase ≡ ProgramRegions → ⊥) → (r.state.phase ≡ s.phase) × (r.state.swapped ≡ s.swapped)

pub record MarkResumed (s : Switcher) (r : Stepped) : Type 0 where
  pub accepts : Accepts r.verdict
  pub inv : Inv r.state
  pub frame_kept : r.state.frame ≡ s.frame
  pub ok : (r.done ≡ true) ↔ (s.phase ≡ Resume)
  pub steps : s.phase ≡ Resume → (r.state.phase ≡ Running) × (r.state.cur ≡ next_window 4 s.cur)
  pub stays : (s.phase ≡ Resume → ⊥) → (r.state.phase ≡ s.phase) × (r.state.cur ≡ s.cur) × (r.state.swapped ≡ s.swapped)

-- `run_switch`, with the status of each call, to the answer r. That it ends in Running, in the next window, cannot stand where a
-- call failed (document 01, "What the source leaves open")
pub record RunSwitch (s : Switcher) (save swap resume : ℕ) (r : Switched) : Type 0 where
  pub accepts : Accepts r.verdict
  pub inv : Inv r.state
  pub frame_kept : r.state.frame ≡ s.frame
  pub running : save ≡ 0 → swap ≡ 0 → resume ≡ 0 → r.state.phase ≡ Running
  pub next_window_lem : save ≡ 0 → swap ≡ 0 → resume ≡ 0 → r.state.cur ≡ next_window 4 s.cur

-- What stands in its place: it stays in the phase whose call got a nonzero status, and that call is the last; all zero, three calls
-- and Running. The calls are in document 01's words: 1 save, 2 swap, 3 resume, each with its partition
pub record SwitchCalls (s : Switcher) (save swap resume : ℕ) (r : Switched) : Type 0 where
  pub save_failed : (save ≡ 0 → ⊥) → (r.state ≡ s) × (calls_words r.calls ≡ 1 ∷ outgoing_of s ∷ [])
  pub swap_failed : save ≡ 0 → (swap ≡ 0 → ⊥)
      → (r.state ≡ saved s) × (calls_words r.calls ≡ 1 ∷ outgoing_of s ∷ 2 ∷ incoming_of s ∷ [])
  pub resume_failed : save ≡ 0 → swap ≡ 0 → (resume ≡ 0 → ⊥)
      → (r.state ≡ swapped_in (saved s)) × (calls_words r.calls ≡ 1 ∷ outgoing_of s ∷ 2 ∷ incoming_of s ∷ 3 ∷ incoming_of s ∷ [])
  pub none_failed : save ≡ 0 → swap ≡ 0 → resume ≡ 0
      → (r.state ≡ resumed (swapped_in (saved s)))
      × (calls_words r.calls ≡ 1 ∷ outgoing_of s ∷ 2 ∷ incoming_of s ∷ 3 ∷ incoming_of s ∷ [])

-- each function under what the source requires, and its three lemmas
pub record OriginalClauses : Type 0 where
  pub check : (f : MajorFrame) → Check f (frame_verdict f)
  pub current_window_lem : (f : MajorFrame) → FrameInv f → (t : ℕ) → t < f.frame_len → CurrentWindow f t (current_window f t)
  pub new : (f : MajorFrame) → FrameInv f → New f (new_of f)
  pub tick : (s : Switcher) → Inv s → (t : ℕ) → Tick s t (tick_of s t)
  pub mark_saved : (s : Switcher) → Inv s → MarkSaved s (mark_saved_of s)
  pub mark_swapped : (s : Switcher) → Inv s → MarkSwapped s (mark_swapped_of s)
  pub mark_resumed : (s : Switcher) → Inv s → MarkResumed s (mark_resumed_of s)
  pub run_switch : (s : Switcher) → Inv s → s.phase ≡ SaveCtx → (save swap resume : ℕ)
      → RunSwitch s save swap resume (run_switch_of s save swap resume)
  pub window_disjoint : (f : MajorFrame) → FrameInv f → (i j t : ℕ) → i < 4 → j < 4 → (i ≡ j → ⊥) → InWindow f i t → InWindow f j t → ⊥
  pub no_skip : (f : MajorFrame) → FrameInv f → (cur t : ℕ) → cur < 4 → InWindow f cur t → t + 1 ≡ win_end f cur
      → InWindow f (next_window 4 cur) (next_tick f.frame_len t)
  pub resume_implies_region_swap : (s : Switcher) → Inv s → s.phase ≡ Resume → s.swapped ≡ true

-- what the source leaves open and document 01 fixes: the mark, and the calls of a switch
pub record LeftOpen : Type 0 where
  pub new_mark : (f : MajorFrame) → FrameInv f → (new_of f).state.swapped ≡ false
  pub resumed_mark : (s : Switcher) → Inv s → s.phase ≡ Resume → (mark_resumed_of s).state.swapped ≡ true
  pub switched_mark : (s : Switcher) → Inv s → s.phase ≡ SaveCtx → (save swap resume : ℕ) → save ≡ 0 → swap ≡ 0 → resume ≡ 0
      → (run_switch_of s save swap resume).state.swapped ≡ true
  pub calls : (s : Switcher) → Inv s → s.phase ≡ SaveCtx → (save swap resume : ℕ)
      → SwitchCalls s save swap resume (run_switch_of s save swap resume)
