-- What the test of a state says, in numbers: where its windows are, which tick is due, how the mark stands, and what it stopped for.
-- Assumes nothing.
use mathlib.Core.Bool.{Bool, true, false, not, ◌&&◌}
use mathlib.Core.Logic.{◌↔◌, ◌⊎◌}
use mathlib.Core.Path.{◌≡◌, sym, ap, subst}
use Prim.Native.Nat.{ℕ, ◌<◌}
use borrow.Author.Tests.{not-true, leb-true, le-leb}
use Rattle.refusal.proofs.Tests.{above, same, not_same, both, one_of}
use Rattle.timeline.specs.Windows.{Holds, next_window}
use Rattle.plan.specs.Plan.{Plan, window_count, window_of, offset_of, budget_of}
use Rattle.protocol.specs.declared.Stage.{Stage}
use Rattle.protocol.specs.declared.Stage.TheVariants.{Running, SaveCtx, ProgramRegions, Resume}
use Rattle.protocol.specs.declared.Cause.{Cause}
use Rattle.protocol.specs.declared.Cause.TheVariants.{WrongTick, TickInSwitch, BadStatus}
use Rattle.protocol.specs.declared.Phase.{Phase}
use Rattle.protocol.specs.declared.Phase.TheVariants.{At, Stopped}
use Rattle.state.specs.declared.State.{State}
use Rattle.protocol.specs.Phase.{call_open, stage_of, can_stop, can_be}
use Rattle.machine.specs.Guard.{in_window, between_windows, at_start, placed_at, fits_at, fits}

pub record InWindow (p : Plan) (current target due : ℕ) : Type 0 where
  pub is_window : current < window_count p
  pub no_switch : target ≡ current
  pub holds : Holds (offset_of p) (budget_of p) current due

pub record Between (p : Plan) (current target due : ℕ) : Type 0 where
  pub is_window : current < window_count p
  pub to_next : target ≡ next_window (window_count p) current
  pub first_due : due ≡ offset_of p target

pub record AtStart (current target due : ℕ) : Type 0 where
  pub from_0 : current ≡ 0
  pub to_0 : target ≡ 0
  pub first_due : due ≡ 0

abbrev pub Place : Plan → (current target due : ℕ) → Stage → Type 0
Place p current target due Running = InWindow p current target due
Place p current target due SaveCtx = Between p current target due
Place p current target due ProgramRegions = AtStart current target due ⊎ Between p current target due
Place p current target due Resume = AtStart current target due ⊎ Between p current target due

-- the mark is set when the regions are programmed, clear when they are about to be
abbrev pub mark_at : Stage → Bool
mark_at Running = true
mark_at SaveCtx = false
mark_at ProgramRegions = false
mark_at Resume = true

pub record Placed (p : Plan) (current target due : ℕ) (mark : Bool) (stage : Stage) : Type 0 where
  pub marked : mark ≡ mark_at stage
  pub place : Place p current target due stage

abbrev pub StoppedFor : Stage → ℕ → Cause → Type 0
StoppedFor stage due (WrongTick t) = (call_open stage ≡ false) × (t ≡ due → ⊥)
StoppedFor stage due (TickInSwitch t) = call_open stage ≡ true
StoppedFor stage due (BadStatus word) = (call_open stage ≡ true) × (word ≡ 0 → ⊥)

abbrev pub FitsPhase : Plan → State → Phase → Type 0
FitsPhase p s (At stage) = Placed p s.current.0 s.target.0 s.due s.swapped stage
FitsPhase p s (Stopped stage cause) =
    StoppedFor stage s.due cause × Placed p s.current.0 s.target.0 s.due s.swapped stage

abbrev pub Fits : Plan → State → Type 0
Fits p s = FitsPhase p s s.phase

set : (b : Bool) → (b ≡ true) ↔ (b ≡ true)
set b = (λ e. e, λ e. e)

clear : (b : Bool) → (not b ≡ true) ↔ (b ≡ false)
clear b = (not-true b, λ e. ap not e)

module _ (p : Plan) (current target due : ℕ) where
  -- the window that is looked at is the target's, and with no switch under way the target is the current one
  in_window_lem : (in_window (window_count p) current target due (window_of p target) ≡ true) ↔ InWindow p current target due
  in_window_lem =
      let tests = both _ _ (both _ _ (both _ _ (above _ _) (same _ _)) (leb-true _ _, le-leb _ _)) (above _ _) in (
        λ e.
            let t = tests.0 e in
            let holds : Holds (offset_of p) (budget_of p) target due = record { started = t.0.1; not_ended = t.1 } in
            let here = t.0.0.1 in
            record { is_window = t.0.0.0; no_switch = here; holds = subst (λ i. Holds (offset_of p) (budget_of p) i due) here holds },
        λ w.
            let holds = subst (λ i. Holds (offset_of p) (budget_of p) i due) (sym w.no_switch) w.holds in
            tests.1 (((w.is_window, w.no_switch), holds.started), holds.not_ended),
      )

  between : (between_windows (window_count p) current target due (window_of p target) ≡ true) ↔ Between p current target due
  between =
      let tests = both _ _ (both _ _ (above _ _) (same _ _)) (same _ _) in (
        λ e. let t = tests.0 e in record { is_window = t.0.0; to_next = t.0.1; first_due = t.1 },
        λ w. tests.1 ((w.is_window, w.to_next), w.first_due),
      )

  at_start_lem : (at_start current target due ≡ true) ↔ AtStart current target due
  at_start_lem =
      let tests = both _ _ (both _ _ (same _ _) (same _ _)) (same _ _) in (
        λ e. let t = tests.0 e in record { from_0 = t.0.0; to_0 = t.0.1; first_due = t.1 },
        λ w. tests.1 ((w.from_0, w.to_0), w.first_due),
      )

stopped_for : (stage : Stage) (due : ℕ) (cause : Cause) → (can_stop stage due cause ≡ true) ↔ StoppedFor stage due cause
stopped_for stage due (WrongTick t) = both _ _ (clear (call_open stage)) (not_same t due)
stopped_for stage due (TickInSwitch t) = set (call_open stage)
stopped_for stage due (BadStatus word) = both _ _ (set (call_open stage)) (not_same word 0)

module _ (p : Plan) (s : State) where
  -- the mark and the place, stage by stage
  of_two : {stage : Stage} {test : Bool} → (test ≡ true) ↔ ((s.swapped ≡ mark_at stage) × Place p s.current.0 s.target.0 s.due stage)
      → (test ≡ true) ↔ Placed p s.current.0 s.target.0 s.due s.swapped stage
  of_two tests = (λ e. let t = tests.0 e in record { marked = t.0; place = t.1 }, λ w. tests.1 (w.marked, w.place))

  at_stage : (stage : Stage)
      → (placed_at (window_count p) p.windows s stage ≡ true) ↔ Placed p s.current.0 s.target.0 s.due s.swapped stage
  unfolding placed_at
  at_stage Running = of_two {stage = Running} (both _ _ (set s.swapped) (in_window_lem p _ _ _))
  at_stage SaveCtx = of_two {stage = SaveCtx} (both _ _ (clear s.swapped) (between p _ _ _))
  at_stage ProgramRegions = of_two {stage = ProgramRegions} (both _ _ (clear s.swapped) (one_of _ _ (at_start_lem p _ _ _) (between p _ _ _)))
  at_stage Resume = of_two {stage = Resume} (both _ _ (set s.swapped) (one_of _ _ (at_start_lem p _ _ _) (between p _ _ _)))

  in_phase_lem : (phase : Phase)
      → (can_be s.due phase && placed_at (window_count p) p.windows s (stage_of phase) ≡ true) ↔ FitsPhase p s phase
  in_phase_lem (At stage) = at_stage stage
  in_phase_lem (Stopped stage cause) = both _ _ (stopped_for stage s.due cause) (at_stage stage)

  pub fits_says : (fits (window_count p) p.windows s ≡ true) ↔ Fits p s
  unfolding fits_at
  fits_says = in_phase_lem s.phase
