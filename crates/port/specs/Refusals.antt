-- What the port refuses, in document 01's numbers and places ("Refusal numbers and their place"): a bad frame is 2, 3 or 5 with its
-- window; 17 means that `inv` is false; a refusal hands back the state it got, or zeros in Running with the mark false where none
-- was given; a refused lookup answers 0, a refused switch lists no call. docs/CONTRACTS.md cites the fields.
use Rattle.std.specs.Prelude.{false, [], ◌↔◌, ◌⊎◌, ◌≡◌, ℕ, ◌≤◌, ◌<◌}
use Rattle.refusal.specs.Verdict.{Verdict}
use Rattle.verdict.specs.Outcome.{outcome}
use Rattle.major_frame.specs.declared.MajorFrame.{MajorFrame}
use Rattle.timeline.specs.declared.Located.{Located}
use Rattle.major_frame.specs.Frame.{offset_at, budget_at, win_end, start_of, FrameInv, frame_verdict, current_window}
use Rattle.protocol.specs.declared.Stage.TheVariants.{SaveCtx}
use Rattle.switcher.specs.declared.Switcher.{Switcher}
use Rattle.switcher.specs.declared.Made.{Made}
use Rattle.switcher.specs.declared.Stepped.{Stepped}
use Rattle.run_switch.specs.declared.Switched.{Switched}
use Rattle.run_switch.specs.Seam.{calls_words}
use Rattle.switcher.specs.Switch.{Inv, zeros, new_of, tick_of, mark_saved_of, mark_swapped_of, mark_resumed_of}
use Rattle.run_switch.specs.RunSwitch.{run_switch_of}
use Rattle.port.specs.Original.{Accepts}

abbrev pub Refuses : Verdict → Type 0
Refuses v = Accepts v → ⊥

-- each window before window i is as `frame_inv` wants it
abbrev pub RightBefore : MajorFrame → ℕ → Type 0
RightBefore f i = (j : ℕ) → j < i → (0 < budget_at f j) × (offset_at f j ≡ start_of f j)

-- what is wrong first: window i has no budget, window i starts elsewhere, the last end is not the frame length
abbrev pub NoBudget : MajorFrame → ℕ → Type 0
NoBudget f i = (i < 4) × RightBefore f i × (budget_at f i ≡ 0)

abbrev pub OtherStart : MajorFrame → ℕ → Type 0
OtherStart f i = (i < 4) × RightBefore f i × (0 < budget_at f i) × (offset_at f i ≡ start_of f i → ⊥)

abbrev pub OtherLength : MajorFrame → ℕ → Type 0
OtherLength f i = (i ≡ 3) × RightBefore f 4 × (win_end f 3 ≡ f.frame_len → ⊥)

-- `check`: windows upward, each for 2, then for 3; then 5 at the last window
pub record FrameRefusals (f : MajorFrame) (v : Verdict) : Type 0 where
  pub zero_budget_lem : (i : ℕ) → (outcome v ≡ (2, i)) ↔ NoBudget f i
  pub wrong_start : (i : ℕ) → (outcome v ≡ (3, i)) ↔ OtherStart f i
  pub wrong_length_lem : (i : ℕ) → (outcome v ≡ (5, i)) ↔ OtherLength f i
  pub no_other : Refuses v → (i : ℕ) × ((outcome v ≡ (2, i)) ⊎ ((outcome v ≡ (3, i)) ⊎ (outcome v ≡ (5, i))))

-- `current_window`: the frame's number, else 12 at place 0; window 0
pub record LookupRefusals (f : MajorFrame) (t : ℕ) (r : Located ℕ) : Type 0 where
  pub bad_frame : Refuses (frame_verdict f) → outcome r.verdict ≡ outcome (frame_verdict f)
  pub past_frame : (outcome r.verdict ≡ (12, 0)) ↔ (FrameInv f × (f.frame_len ≤ t))
  pub no_other : Refuses r.verdict → FrameInv f → t < f.frame_len → ⊥
  pub answers_0 : Refuses r.verdict → r.window ≡ 0

-- `new`: the frame's number, with zeros
pub record NewRefusals (f : MajorFrame) (r : Made) : Type 0 where
  pub bad_frame : outcome r.verdict ≡ outcome (frame_verdict f)
  pub gives_zeros : Refuses r.verdict → r.state ≡ zeros

-- of a state: the frame's number first; 17 at place 0 exactly if the frame is good and `inv` is false
pub record StateRefusals (s : Switcher) (v : Verdict) : Type 0 where
  pub bad_frame : Refuses (frame_verdict s.frame) → outcome v ≡ outcome (frame_verdict s.frame)
  pub strange : (outcome v ≡ (17, 0)) ↔ (FrameInv s.frame × (Inv s → ⊥))

-- `tick` and the marks: the state's number and no other; the state comes back, and nothing is done
pub record StepRefusals (s : Switcher) (r : Stepped) : Type 0 where
  pub state : StateRefusals s r.verdict
  pub no_other : Refuses r.verdict → Inv s → ⊥
  pub state_back : Refuses r.verdict → r.state ≡ s
  pub not_done : Refuses r.verdict → r.done ≡ false

-- `run_switch`: the state's number, else 13 at place 0 outside SaveCtx; the state comes back, and no call is made
pub record SwitchRefusals (s : Switcher) (r : Switched) : Type 0 where
  pub state : StateRefusals s r.verdict
  pub no_call_open : (outcome r.verdict ≡ (13, 0)) ↔ (Inv s × (s.phase ≡ SaveCtx → ⊥))
  pub no_other : Refuses r.verdict → Inv s → s.phase ≡ SaveCtx → ⊥
  pub state_back : Refuses r.verdict → r.state ≡ s
  pub no_call : Refuses r.verdict → calls_words r.calls ≡ []

-- of every function, any frame, any state, any tick and any status
pub record PortRefusals : Type 0 where
  pub check : (f : MajorFrame) → FrameRefusals f (frame_verdict f)
  pub current_window_lem : (f : MajorFrame) (t : ℕ) → LookupRefusals f t (current_window f t)
  pub new : (f : MajorFrame) → NewRefusals f (new_of f)
  pub tick : (s : Switcher) (t : ℕ) → StepRefusals s (tick_of s t)
  pub mark_saved : (s : Switcher) → StepRefusals s (mark_saved_of s)
  pub mark_swapped : (s : Switcher) → StepRefusals s (mark_swapped_of s)
  pub mark_resumed : (s : Switcher) → StepRefusals s (mark_resumed_of s)
  pub run_switch : (s : Switcher) (save swap resume : ℕ) → SwitchRefusals s (run_switch_of s save swap resume)
