-- Which states are let in, as a test that looks at one window at most (document 01, refusals 17 and 14, "these first, then 17, then 14").
-- Nobody has to believe it: crate `history` shows that it lets in exactly the states that events lead to (`Reached`, proofs/Exact.antt).
use Rattle.std.specs.Prelude.{Bool, Result, Ok, Err, not, ◌&&◌, ◌||◌, List, ℕ, eqb, leb, ltb}
use Rattle.refusal.specs.declared.Refusal.TheVariants.{MachineStopped, StrangeState}
use Rattle.refusal.specs.Verdict.{Verdict}
use Rattle.refusal.specs.First.{refuse_if, or_else}
use Rattle.verdict.specs.First.{unless_refused}
use Rattle.timeline.specs.Windows.{next_window}
use Rattle.records.specs.declared.Window.{Window}
use Rattle.plan.specs.Plan.{Plan, window_count}
use Rattle.records.specs.Records.{nth_window, end_of}
use Rattle.plan.specs.Faults.{verdict_of}
use Rattle.protocol.specs.declared.Stage.{Stage}
use Rattle.protocol.specs.declared.Stage.TheVariants.{Running, SaveCtx, ProgramRegions, Resume}
use Rattle.protocol.specs.declared.Phase.{Phase}
use Rattle.protocol.specs.Phase.{is_stopped, stage_of, can_be}
use Rattle.state.specs.declared.State.{State}
use Rattle.machine.specs.declared.Guarded.{Guarded}
use Rattle.machine.specs.declared.NotLetIn.{NotLetIn}

-- the first two tests of the windows and the due tick get how many windows there are, and the target's window: no switch is under way, and the
-- due tick is in the current window, which is the target
abbrev pub in_window : (count current target due : ℕ) → Window → Bool
in_window count current target due window =
    ltb current count && eqb target current && leb window.offset due && ltb due (end_of window)

-- a switch from a window to the next, the target, whose first tick is due
abbrev pub between_windows : (count current target due : ℕ) → Window → Bool
between_windows count current target due window =
    ltb current count && eqb target (next_window count current) && eqb due window.offset

-- the switch that a cold start is
abbrev pub at_start : (current target due : ℕ) → Bool
at_start current target due = eqb current 0 && eqb target 0 && eqb due 0

-- which of them a stage passes, and how its mark stands: set when the regions are programmed, clear when they are about to be
abbrev pub fits_stage : Stage → (mark inside between start : Bool) → Bool
fits_stage Running mark inside between start = mark && inside
fits_stage SaveCtx mark inside between start = not mark && between
fits_stage ProgramRegions mark inside between start = not mark && (start || between)
fits_stage Resume mark inside between start = mark && (start || between)

unfoldable pub placed_at : (count : ℕ) → List ℕ → State → Stage → Bool
placed_at count windows s stage =
    let current = s.current.0 in
    let target = s.target.0 in
    let window = nth_window windows target in
    fits_stage stage s.swapped (in_window count current target s.due window)
    (between_windows count current target s.due window)
    (at_start current target s.due)

-- a stop has a cause that can have stopped it there
unfoldable pub fits_at : (count : ℕ) → List ℕ → State → Stage → Bool
fits_at count windows s stage = can_be s.due s.phase && placed_at count windows s stage

abbrev pub fits : (count : ℕ) → List ℕ → State → Bool
fits count windows s = fits_at count windows s (stage_of s.phase)

-- "then 17, then 14"
unfoldable pub state_verdict : (fits : Bool) → Phase → Verdict
state_verdict fits phase = or_else (refuse_if (not fits) StrangeState) (refuse_if (is_stopped phase) MachineStopped)

-- "these first"
unfoldable pub guard_of : Plan → State → Verdict
guard_of p s = or_else (verdict_of p) (state_verdict (fits (window_count p) p.windows s) s.phase)

-- with what the step goes by: the stage, and how many windows an accepted plan has
abbrev pub found : Plan → State → Guarded
found p s = record { stage = stage_of s.phase; count = unless_refused (verdict_of p) (window_count p) 0 }

-- it is handed out beside a refusal too
abbrev pub let_in : Verdict → Guarded → Result Guarded NotLetIn
let_in (Ok _) g = Ok g
let_in (Err r) g = Err (record { found = g; refusal = r })

abbrev pub guarded : Plan → State → Result Guarded NotLetIn
guarded p s = let_in (guard_of p s) (found p s)
