-- Every state that fits is reached. A machine that runs is led from one due tick to the next, through a switch where a window ends, by
-- induction on the due tick; every other state is a few events further.
-- Assumes nothing.
use mathlib.Core.Bool.{Bool, true, false}
use mathlib.Core.List.{List, [], ◌∷◌, ◌++◌}
use mathlib.Core.Logic.{◌⊎◌, inl, inr}
use mathlib.Core.Path.{◌≡◌, refl, sym, ap, ◌∙◌, subst}
use Prim.Native.Nat.{ℕ, zero, suc, ◌+◌, ◌-◌, ◌≤◌, ◌<◌}
use native.Mathlib.Decide.{ℕ_discrete}
use native.Mathlib.Omega.{arith}
use Rattle.timeline.specs.Windows.{Holds, next_window, next_tick}
use Rattle.timeline.proofs.Laws.{exactly_one, share_no_tick, holds_in_frame, next_starts, next_holds, next_is_window, next_below, first_holds, some_ticks}
use Rattle.plan.specs.Plan.{Plan, frame_length, window_count, window_of, offset_of, budget_of}
use Rattle.records.specs.Records.{end_of}
use Rattle.accepted.specs.Accepted.{AcceptedIf}
use Rattle.accepted.proofs.FollowLaws.{follow}
use Rattle.protocol.specs.declared.Stage.{Stage}
use Rattle.protocol.specs.declared.Stage.TheVariants.{Running, SaveCtx, ProgramRegions, Resume}
use Rattle.protocol.specs.declared.Cause.{Cause}
use Rattle.protocol.specs.declared.Cause.TheVariants.{WrongTick, TickInSwitch, BadStatus}
use Rattle.protocol.specs.declared.Phase.{Phase}
use Rattle.protocol.specs.declared.Phase.TheVariants.{At, Stopped}
use Rattle.protocol.specs.Phase.{call_open, kept_word}
use Rattle.state.specs.declared.State.{State}
use Rattle.state.specs.declared.Answer.{Answer}
use Rattle.state.specs.State.{window_no, cold, ticked, asked, resumed, stopped}
use Rattle.state.specs.Start.{cold_move}
use Rattle.machine.specs.Step.{timetable_of, zero_at}
use Rattle.history.specs.Reached.{Event, tick, status, move_of, leads, word_of, Within, ReachedWithin}
use Rattle.state.proofs.StateLaws.{is_asked, is_stopped_lem}
use Rattle.machine.proofs.StepLaws.{taken_last, taken_within, tick_in_switch, tick_wrong, tick_due, status_zero, status_bad}
use Rattle.machine.proofs.FitsLaws.{Between, AtStart, Place, Placed, mark_at, StoppedFor, FitsPhase, Fits}

-- the states of a machine that is not stopped
abbrev running : (window due : ℕ) → State
running window due = ticked (resumed (asked cold Resume (window_no window) true)) due

abbrev live : Stage → (current target due : ℕ) → Bool → State
live stage current target due mark = asked (running current due) stage (window_no target) mark

leads_on : (p : Plan) (s : State) (events more : List Event) → leads p s (events ++ more) ≡ leads p (leads p s events) more
unfolding leads
leads_on p s [] more = refl
leads_on p s (e ∷ events) more = leads_on p (move_of p s e).state events more

within_both : (bound : ℕ) (events more : List Event) → Within bound events → Within bound more → Within bound (events ++ more)
unfolding Within
within_both bound [] more low also = also
within_both bound (e ∷ events) more low also = (low.0, within_both bound events more low.1 also)

module _ (p : Plan) (a : AcceptedIf p) (bound : ℕ) (long : frame_length p ≤ bound) where
  -- one event more
  and_then : {s : State} → ReachedWithin bound p s → (e : Event) → word_of e < bound → {to : Answer} → move_of p s e ≡ to
      → ReachedWithin bound p to.state
  unfolding leads Within
  and_then {s} (events, low, there) e small {to} leads-to = (
    events ++ (e ∷ []),
    within_both bound events (e ∷ []) low (small, tt),
    leads_on p _ events (e ∷ []) ∙ ap (λ (from : State). (move_of p from e).state) there ∙ ap (λ (m : Answer). m.state) leads-to,
  )

  zero_small : 0 < bound
  zero_small = omega (arith, some_ticks (follow p a))

  -- a zero in a switch
  and_zero : {s : State} {stage : Stage} → ReachedWithin bound p s → s.phase ≡ At stage → call_open stage ≡ true → {to : Answer} → zero_at p.windows s stage ≡ to
      → ReachedWithin bound p to.state
  and_zero {s} {stage} there e waits leads-to =
      and_then there (status 0) zero_small (status_zero p.windows s 0 stage e waits refl ∙ leads-to)

  -- the due tick, and if it is the window's last, three zeros
  module _ {window due : ℕ} (there : ReachedWithin bound p (running window due)) (small : due < bound) where
    stays_in : (due + 1 ≡ end_of (window_of p window) → ⊥) → ReachedWithin bound p (running window (next_tick (frame_length p) due))
    stays_in more =
        and_then there (tick due) small (tick_due (timetable_of p) _ due Running refl refl refl ∙ taken_within (timetable_of p) _ due more)

    saves : due + 1 ≡ end_of (window_of p window)
        → ReachedWithin bound p (live SaveCtx window (next_window (window_count p) window) (next_tick (frame_length p) due) false)
    saves last =
        and_then there (tick due) small (tick_due (timetable_of p) _ due Running refl refl refl ∙ taken_last (timetable_of p) _ due last)

  saved : {current target due : ℕ} → ReachedWithin bound p (live SaveCtx current target due false)
      → ReachedWithin bound p (live ProgramRegions current target due false)
  unfolding zero_at
  saved there = and_zero there refl refl refl

  programmed : {current target due : ℕ} → ReachedWithin bound p (live ProgramRegions current target due false)
      → ReachedWithin bound p (live Resume current target due true)
  unfolding zero_at
  programmed there = and_zero there refl refl refl

  runs_again : {current target due : ℕ} → ReachedWithin bound p (live Resume current target due true)
      → ReachedWithin bound p (running target due)
  unfolding zero_at
  runs_again there = and_zero there refl refl refl

  starts : ReachedWithin bound p (live ProgramRegions 0 0 0 false)
  unfolding cold_move leads Within
  starts = ([], tt, refl)

  -- a window that holds a tick is the one
  same_window : {i j t : ℕ} → i < window_count p → j < window_count p → Holds (offset_of p) (budget_of p) i t → Holds (offset_of p) (budget_of p) j t → i ≡ j
  same_window {i} {j} {t} i-is j-is hi hj = share_no_tick (follow p a) i j t i-is j-is hi hj

  -- from one due tick to the next
  module _ {due w window : ℕ} (w-is : w < window_count p) (w-holds : Holds (offset_of p) (budget_of p) w due)
      (is_window : window < window_count p) (holds : Holds (offset_of p) (budget_of p) window (suc due)) where
    onward : next_tick (frame_length p) due ≡ suc due
    onward =
        next_below (frame_length p) due (omega (arith, holds_in_frame (follow p a) window (suc due) is_window holds)) ∙ omega arith

    runs_next : ReachedWithin bound p (running w due) → ReachedWithin bound p (running window (suc due))
    runs_next there =
        let small : due < bound = omega (arith, holds_in_frame (follow p a) w due w-is w-holds) in
        elim (ℕ_discrete (due + 1) (end_of (window_of p w))) [
          | yes last ↦
              let first = subst (Holds (offset_of p) (budget_of p) (next_window (window_count p) w)) onward (next_holds (follow p a) w due w-is last) in
              let here = same_window (next_is_window (follow p a) w w-is) is_window first holds in
              subst (λ i. ReachedWithin bound p (running i (suc due))) here
              (subst (λ d. ReachedWithin bound p (running (next_window (window_count p) w) d)) onward
              (runs_again (programmed (saved (saves there small last)))))
          | no more ↦
              let also : Holds (offset_of p) (budget_of p) w (suc due) = record { started = omega (arith, w-holds.started); not_ended = omega (arith, w-holds.not_ended) } in
              let here = same_window w-is is_window also holds in
              subst (λ i. ReachedWithin bound p (running i (suc due))) here
              (subst (λ d. ReachedWithin bound p (running w d)) onward (stays_in there small more))
        ]

  runs : (due window : ℕ) → window < window_count p → Holds (offset_of p) (budget_of p) window due → ReachedWithin bound p (running window due)
  runs zero window is_window holds =
      subst (λ w. ReachedWithin bound p (running w 0)) (same_window (follow p a).one_at_least is_window (first_holds (follow p a)) holds) (runs_again (programmed starts))
  runs (suc due) window is_window holds =
      let below = holds_in_frame (follow p a) window (suc due) is_window holds in
      let one = exactly_one (follow p a) due (omega arith) in
      runs_next one.is_window one.holds is_window holds (runs due _ one.is_window one.holds)

  -- the last tick of a window, then the switch
  between : {current target due : ℕ} → Between p current target due → ReachedWithin bound p (live SaveCtx current target due false)
  between {current} {target} {due} w =
      let last : ℕ = offset_of p current + budget_of p current - 1 in
      let long_enough = a.budgets_are_positive current w.is_window in
      let holds : Holds (offset_of p) (budget_of p) current last = record { started = omega arith; not_ended = omega arith } in
      let ends : last + 1 ≡ end_of (window_of p current) = omega arith in
      let small : last < bound = omega (arith, holds_in_frame (follow p a) current last w.is_window holds) in
      let there = saves (runs last current w.is_window holds) small ends in
      let due-is = next_starts (follow p a) current last w.is_window ends ∙ sym (ap (offset_of p) w.to_next) ∙ sym w.first_due in
      subst (λ g. ReachedWithin bound p (live SaveCtx current g due false)) (sym w.to_next)
      (subst (λ d. ReachedWithin bound p (live SaveCtx current (next_window (window_count p) current) d false)) due-is there)

  on_the_way : {current target due : ℕ} → AtStart current target due ⊎ Between p current target due
      → ReachedWithin bound p (live ProgramRegions current target due false)
  on_the_way {current} {target} {due} (inl w) = rw (w.from_0, w.to_0, w.first_due) starts
  on_the_way {current} {target} {due} (inr w) = saved (between w)

  in_place : {current target due : ℕ} (stage : Stage) → Place p current target due stage
      → ReachedWithin bound p (live stage current target due (mark_at stage))
  in_place {current} {target} {due} Running w =
      subst (λ g. ReachedWithin bound p (live Running current g due true)) (sym w.no_switch) (runs due current w.is_window w.holds)
  in_place SaveCtx w = between w
  in_place ProgramRegions w = on_the_way w
  in_place Resume w = programmed (on_the_way w)

  placed : {current target due : ℕ} {mark : Bool} (stage : Stage) → Placed p current target due mark stage
      → ReachedWithin bound p (live stage current target due mark)
  placed {current} {target} {due} {mark} stage w =
      subst (λ m. ReachedWithin bound p (live stage current target due m)) (sym w.marked) (in_place stage w.place)

  module _ (s : State) where
    -- what stops a machine at this stage
    stops : (stage : Stage) (cause : Cause) → StoppedFor stage s.due cause → kept_word (Stopped stage cause) < bound
        → ReachedWithin bound p (asked s stage s.target s.swapped) → ReachedWithin bound p (stopped s stage cause)
    stops stage (WrongTick t) (runs, wrong) small there =
        and_then there (tick t) small (tick_wrong (timetable_of p) _ t stage refl runs wrong)
    stops stage (TickInSwitch t) waits small there =
        and_then there (tick t) small (tick_in_switch (timetable_of p) _ t stage refl waits)
    stops stage (BadStatus w) (waits, bad) small there =
        and_then there (status w) small (status_bad p.windows _ w stage refl waits bad)

    reach : (phase : Phase) → s.phase ≡ phase → FitsPhase p s phase → kept_word phase < bound → ReachedWithin bound p s
    reach (At stage) e w small = subst (ReachedWithin bound p) (sym (is_asked s e)) (placed stage w)
    reach (Stopped stage cause) e (why, w) small =
        subst (ReachedWithin bound p) (sym (is_stopped_lem s e)) (stops stage cause why small (placed stage w))

  pub fits_reached : (s : State) → Fits p s → kept_word s.phase < bound → ReachedWithin bound p s
  fits_reached s f small = reach s s.phase refl f small
