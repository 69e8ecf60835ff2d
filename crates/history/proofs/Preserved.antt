-- Every event leads from a state that fits to one that fits, case by case; so whatever is reached fits.
-- Assumes nothing.
use mathlib.Core.List.{List, [], ◌∷◌}
use mathlib.Core.Logic.{◌⊎◌, inl, inr}
use mathlib.Core.Path.{◌≡◌, refl, sym, subst}
use Prim.Native.Nat.{ℕ, ◌+◌, ◌<◌}
use native.Mathlib.Omega.{arith}
use Rattle.timeline.specs.Windows.{next_window, next_tick}
use Rattle.timeline.proofs.Laws.{next_starts, next_is_window, goes_on, first_holds}
use Rattle.plan.specs.Plan.{Plan, frame_length, window_count, window_of}
use Rattle.records.specs.Records.{end_of}
use Rattle.accepted.specs.Accepted.{AcceptedIf}
use Rattle.accepted.proofs.FollowLaws.{follow}
use Rattle.state.specs.declared.State.{State}
use Rattle.state.specs.declared.Answer.{Answer}
use Rattle.state.specs.State.{cold}
use Rattle.machine.specs.Step.{timetable_of, tick_move, status_move}
use Rattle.history.specs.Reached.{Event, tick, status, move_of, leads}
use Rattle.history.specs.Cases.{TickCase, window_goes_on, window_ends, wrong_tick, tick_in_a_switch, tick_too_late, StatusCase, saved, programmed, runs_again, bad_status, status_unasked_for, status_too_late, onward}
use Rattle.history.proofs.Cases.{tick_case, status_case}
use Rattle.machine.proofs.FitsLaws.{InWindow, Between, AtStart, FitsPhase, Fits}

module _ (p : Plan) (a : AcceptedIf p) where
  -- where a switch leads, the due tick is in the window
  pub arrives : {current target due : ℕ} → AtStart current target due ⊎ Between p current target due → InWindow p target target due
  arrives {current} {target} {due} (inl w) =
      rw (w.to_0, w.first_due)
      (record {
        is_window = (follow p a).one_at_least;
        no_switch = refl;
        holds = first_holds (follow p a);
      })
  arrives {current} {target} {due} (inr w) =
      let k : target < window_count p = subst (λ i. i < window_count p) (sym w.to_next) (next_is_window (follow p a) current w.is_window) in
      record {
        is_window = k;
        no_switch = refl;
        holds = record { started = omega (arith, w.first_due); not_ended = omega (arith, w.first_due, a.budgets_are_positive target k) };
      }

  -- a due tick inside the window, and its last
  inside : {current target due t : ℕ} → InWindow p current target due → t ≡ due → (t + 1 ≡ end_of (window_of p current) → ⊥)
      → InWindow p current target (next_tick (frame_length p) t)
  inside {current} {target} {due} {t} w here more =
      let before : t + 1 < end_of (window_of p current) = omega (arith, w.holds.not_ended) in
      rw (goes_on (follow p a) current t w.is_window before)
      (record {
        is_window = w.is_window;
        no_switch = w.no_switch;
        holds = record { started = omega (arith, w.holds.started); not_ended = before };
      })

  leaves : {current target due : ℕ} (t : ℕ) → InWindow p current target due → t + 1 ≡ end_of (window_of p current)
      → Between p current (next_window (window_count p) current) (next_tick (frame_length p) t)
  leaves {current} {target} {due} t w last =
      record { is_window = w.is_window; to_next = refl; first_due = next_starts (follow p a) current t w.is_window last }

  module _ (s : State) (f : Fits p s) where
    -- a move leads where it is said to lead
    led : {m to : Answer} → m ≡ to → Fits p to.state → Fits p m.state
    led e fit = subst (λ (m : Answer). Fits p m.state) (sym e) fit

    tick_fits : (t : ℕ) → TickCase (timetable_of p) s t → Fits p (tick_move (timetable_of p) s t).state
    tick_fits t (window_goes_on e due more to) =
        let at = subst (FitsPhase p s) e f in
        led to
        (subst (FitsPhase p (onward (timetable_of p) s t)) (sym e) (record { marked = at.marked; place = inside at.place due more }))
    tick_fits t (window_ends e due last to) =
        let at = subst (FitsPhase p s) e f in
        led to (record { marked = refl; place = leaves t at.place last })
    tick_fits t (wrong_tick e wrong to) = led to ((refl, wrong), subst (FitsPhase p s) e f)
    tick_fits t (tick_in_a_switch stage e waits to) = led to (waits, subst (FitsPhase p s) e f)
    tick_fits t (tick_too_late stage cause e to) = led to f

    status_fits : (word : ℕ) → StatusCase p.windows s word → Fits p (status_move p.windows s word).state
    status_fits word (saved e zero to) =
        let at = subst (FitsPhase p s) e f in
        led to (record { marked = at.marked; place = inr at.place })
    status_fits word (programmed e zero to) =
        let at = subst (FitsPhase p s) e f in
        led to (record { marked = refl; place = at.place })
    status_fits word (runs_again e zero to) =
        let at = subst (FitsPhase p s) e f in
        led to (record { marked = at.marked; place = arrives at.place })
    status_fits word (bad_status stage e waits bad to) = led to ((waits, bad), subst (FitsPhase p s) e f)
    status_fits word (status_unasked_for e to) = led to f
    status_fits word (status_too_late stage cause e to) = led to f

    pub move_fits : (e : Event) → Fits p (move_of p s e).state
    move_fits (tick t) = tick_fits t (tick_case (timetable_of p) s t)
    move_fits (status word) = status_fits word (status_case p.windows s word)

  pub cold_fits : Fits p cold
  cold_fits = record { marked = refl; place = inl (record { from_0 = refl; to_0 = refl; first_due = refl }) }

  pub leads_fits : (s : State) → Fits p s → (events : List Event) → Fits p (leads p s events)
  unfolding leads
  leads_fits s f [] = f
  leads_fits s f (e ∷ events) = leads_fits (move_of p s e).state (move_fits s f e) events
