-- `run_switch` of the original, src/partition_switch.rs, with the status of each call (document 01, "What the source leaves open"): "It stays in
-- the phase whose call got a nonzero status; that call is the last. All zero: three calls and Running."
use Rattle.std.specs.Prelude.{Option, Some, None, not, cond, List, [], ◌∷◌, ℕ, eqb, ltb}
use Rattle.refusal.specs.declared.Refusal.TheVariants.{NoCallOpen}
use Rattle.refusal.specs.Verdict.{Verdict}
use Rattle.std.specs.Prelude.{Ok, Err}
use Rattle.refusal.specs.First.{refuse_if, or_else}
use Rattle.timeline.specs.Windows.{next_window}
use Rattle.major_frame.specs.Frame.{partition_at}
use Rattle.protocol.specs.declared.Call.{Call}
use Rattle.protocol.specs.declared.Call.TheVariants.{SaveFor, SwapFor, ResumeFor}
use Rattle.protocol.specs.declared.Stage.TheVariants.{SaveCtx}
use Rattle.switcher.specs.declared.Switcher.{Switcher}
use Rattle.switcher.specs.Switch.{in_phase, state_verdict, saved, swapped_in, resumed}
use Rattle.run_switch.specs.declared.Switched.{Switched}

-- the state's refusal, else 13 outside SaveCtx
unfoldable pub switch_verdict : Switcher → Verdict
switch_verdict s = or_else (state_verdict s) (refuse_if (not (in_phase s.phase SaveCtx)) NoCallOpen)

-- how many calls it makes: none where it refuses, else up to the first that gets a nonzero status
unfoldable pub calls_made : Verdict → (save swap : ℕ) → ℕ
calls_made (Ok _) save swap = cond (eqb save 0) (cond (eqb swap 0) 3 2) 1
calls_made (Err r) save swap = 0

-- the first of these three: the outgoing partition is saved, the incoming one's regions are programmed, then it is resumed
unfoldable pub calls_of : (made outgoing incoming : ℕ) → List (Option Call)
calls_of made outgoing incoming =
    cond (ltb 0 made) (Some (SaveFor (record { 0 = outgoing }))) None
    ∷ cond (ltb 1 made) (Some (SwapFor (record { 0 = incoming }))) None
    ∷ cond (ltb 2 made) (Some (ResumeFor (record { 0 = incoming }))) None
    ∷ []

-- what they leave: what the marks lead to, up to the phase whose call got a nonzero status; a refused state comes back as it came
unfoldable pub left_after : (made resume : ℕ) → Switcher → Switcher
left_after made resume s =
    cond (ltb made 2) s
    (cond (ltb made 3) (saved s) (cond (eqb resume 0) (resumed (swapped_in (saved s))) (swapped_in (saved s))))

-- the owners of the current window and of the next
abbrev pub outgoing_of : Switcher → ℕ
outgoing_of s = partition_at s.frame s.cur

abbrev pub incoming_of : Switcher → ℕ
incoming_of s = partition_at s.frame (next_window 4 s.cur)

unfoldable pub run_switch_of : Switcher → (save swap resume : ℕ) → Switched
run_switch_of s save swap resume =
    let verdict = switch_verdict s in
    let made = calls_made verdict save swap in
    record { state = left_after made resume s; calls = calls_of made (outgoing_of s) (incoming_of s); verdict = verdict }
