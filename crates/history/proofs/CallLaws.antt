-- The calls of a machine are the plan's: each event adds the call that comes next, or none. The window whose turn it is is the target, since that
-- holds the due tick, which is N modulo the frame length.
-- Assumes nothing.
use mathlib.Core.Bool.{Bool, true, false}
use mathlib.Core.List.{List, [], ◌∷◌}
use mathlib.Core.Logic.{inr}
use mathlib.Core.Path.{◌≡◌, refl, sym, ap, ◌∙◌, subst}
use Prim.Native.Nat.{ℕ, zero, suc, ◌+◌, ◌*◌, ◌/◌, ◌%◌, ◌≤◌}
use native.Mathlib.Nat.{zero-mod}
use native.Mathlib.Numerals.{add-one}
use native.Mathlib.Omega.{arith}
use lib.ListN.{length}
use Rattle.refusal.specs.declared.Refusal.{Refusal}
use Rattle.refusal.specs.Verdict.{Verdict, accepted}
use Rattle.std.specs.Prelude.{Ok, Err}
use Rattle.timeline.specs.Windows.{Holds}
use Rattle.timeline.proofs.Ended.{none_ended, turn, window_lasts, window_ends as ends-one, ended_at_most}
use Rattle.plan.specs.Plan.{Plan, window_count, owner_of, offset_of, budget_of}
use Rattle.accepted.specs.Accepted as plan
use Rattle.accepted.proofs.FollowLaws.{follow}
use Rattle.protocol.specs.Numbers.{save_for, swap_for, resume_for, stage_number, phase_words}
use Rattle.protocol.specs.declared.CallWords.{CallWords}
use Rattle.protocol.specs.declared.Stage.{Stage}
use Rattle.protocol.specs.declared.Stage.TheVariants.{Running, SaveCtx, ProgramRegions, Resume}
use Rattle.protocol.specs.declared.Phase.{Phase}
use Rattle.protocol.specs.declared.Phase.TheVariants.{At}
use Rattle.protocol.specs.Phase.{is_stopped}
use Rattle.state.specs.declared.Answer.{Answer}
use Rattle.state.specs.Start.{cold_of}
use Rattle.machine.specs.Step.{timetable_of}
use Rattle.history.specs.Reached.{Event, tick, status, ticks_of}
use Rattle.history.specs.History.{Machine, answer_of, machine_of, History, counted, begin, go_on, next, since, history}
use Rattle.history.specs.Cases.{TickCase, window_goes_on, window_ends, wrong_tick, tick_in_a_switch, tick_too_late, StatusCase, saved, programmed, runs_again, bad_status, status_unasked_for, status_too_late}
use Rattle.history.specs.Calls.{owner_after, turn_call, call_at, first_calls, calls_in, ended_after, call_count, CallsAreThePlans}
use Rattle.machine.proofs.FitsLaws.{InWindow, FitsPhase}
use Rattle.history.proofs.Cases.{tick_case, status_case}
use Rattle.history.proofs.Preserved.{arrives}
use Rattle.history.proofs.Answers.{too_late, on_tick, on_status, unasked, refused_not_counted}
use Rattle.history.proofs.HistoryLaws.{Inv, next_inv, start_inv, start_is}

-- the three calls of a window's owner, and what each adds to those before
module _ (p : Plan) (s : ℕ) where
  pub call_swap : call_at p (3 * s) ≡ swap_for (owner_after p s)
  unfolding call_at
  call_swap =
      let third : 3 * s / 3 ≡ s = omega arith in
      let which : 3 * s % 3 ≡ 0 = omega arith in
      λ k. turn_call (owner_after p (third k)) (which k)

  call_resume : call_at p (3 * s + 1) ≡ resume_for (owner_after p s)
  unfolding call_at
  call_resume =
      let third : (3 * s + 1) / 3 ≡ s = omega arith in
      let which : (3 * s + 1) % 3 ≡ 1 = omega arith in
      λ k. turn_call (owner_after p (third k)) (which k)

  call_save : call_at p (3 * s + 2) ≡ save_for (owner_after p s)
  unfolding call_at
  call_save =
      let third : (3 * s + 2) / 3 ≡ s = omega arith in
      let which : (3 * s + 2) % 3 ≡ 2 = omega arith in
      λ k. turn_call (owner_after p (third k)) (which k)

one_more_first : (p : Plan) (m n : ℕ) → n ≡ m + 1 → first_calls p n ≡ call_at p m ∷ first_calls p m
unfolding first_calls
one_more_first p m n e = rw (e, add-one m)

module _ (p : Plan) (s : ℕ) where
  then_swap : first_calls p (call_count 2 s) ≡ swap_for (owner_after p s) ∷ first_calls p (call_count 1 s)
  then_swap = one_more_first p (3 * s) (3 * s + 1) refl ∙ ap (λ (c : CallWords). c ∷ first_calls p (3 * s)) (call_swap p s)

  then_resume : first_calls p (call_count 3 s) ≡ resume_for (owner_after p s) ∷ first_calls p (call_count 2 s)
  then_resume = one_more_first p (3 * s + 1) (3 * s + 2) (omega arith) ∙ ap (λ (c : CallWords). c ∷ first_calls p (3 * s + 1)) (call_resume p s)

  then_save : first_calls p (call_count 1 (s + 1)) ≡ save_for (owner_after p s) ∷ first_calls p (call_count 0 s)
  then_save = one_more_first p (3 * s + 2) (3 * (s + 1)) (omega arith) ∙ ap (λ (c : CallWords). c ∷ first_calls p (3 * s + 2)) (call_save p s)

pub length_first : (p : Plan) (m : ℕ) → length (first_calls p m) ≡ m
unfolding first_calls
length_first p zero = refl
length_first p (suc m) = ap suc (length_first p m)

module _ (p : Plan) (a : plan.AcceptedIf p) (h : History) (i : Inv p h) (c : CallsAreThePlans p h) where
  abbrev N : ℕ
  N = h.taken

  -- the window that holds the due tick is the one whose turn it is
  its_turn : {w target : ℕ} → InWindow p w target h.state.due → owner_after p (ended_after p N) ≡ owner_of p w
  its_turn {w} at =
      ap (owner_of p) (turn (follow p a) N w at.is_window (subst (Holds (offset_of p) (budget_of p) w) i.in_time at.holds))

  -- so far, by the stage
  so_far : (stage : Stage) → h.state.phase ≡ At stage → calls_in h.entries ≡ first_calls p (call_count (stage_number stage) (ended_after p N))
  so_far stage e = c ∙ ap (λ (phase : Phase). first_calls p (call_count (phase_words phase).stage (ended_after p N))) e

  accepts : (e : Event) {to : Answer} → answer_of p h.state e ≡ to → CallsAreThePlans p (go_on h e to) → CallsAreThePlans p (next (machine_of p) h e)
  accepts e says calls = subst (λ (to : Answer). CallsAreThePlans p (go_on h e to)) (sym says) calls

  refuses : (e : Event) {r : Refusal} → (answer_of p h.state e).verdict ≡ Err r → CallsAreThePlans p (next (machine_of p) h e)
  refuses e {r} says = subst (CallsAreThePlans p) (sym (refused_not_counted p h e r says)) c

  tick_calls : (t : ℕ) → TickCase (timetable_of p) h.state t → CallsAreThePlans p (next (machine_of p) h (tick t))
  tick_calls t (window_goes_on e due more to) =
      let at = (subst (FitsPhase p h.state) e i.fit).place in
      let holds = subst (Holds (offset_of p) (budget_of p) h.state.current.0) i.in_time at.holds in
      let lasts = window_lasts (follow p a) N h.state.current.0 at.is_window holds (omega (arith, holds.not_ended, due, i.in_time, more)) in
      accepts (tick t) (on_tick p a h.state i.fit e t to)
      (so_far Running e
      ∙ ap (λ (s : ℕ). first_calls p (call_count 0 s)) (sym lasts)
      ∙ ap (λ (phase : Phase). first_calls p (call_count (phase_words phase).stage (ended_after p (counted (tick t) accepted (is_stopped phase) N)))) (sym e))
  tick_calls t (window_ends e due last to) =
      let at = (subst (FitsPhase p h.state) e i.fit).place in
      let holds = subst (Holds (offset_of p) (budget_of p) h.state.current.0) i.in_time at.holds in
      let one_more = ends-one (follow p a) N h.state.current.0 at.is_window holds (omega (arith, due, i.in_time, last)) in
      accepts (tick t) (on_tick p a h.state i.fit e t to)
      ((λ k. save_for (sym (its_turn at) k) ∷ so_far Running e k)
      ∙ sym (then_save p (ended_after p N))
      ∙ ap (λ (s : ℕ). first_calls p (call_count 1 s)) (sym one_more))
  tick_calls t (wrong_tick e wrong to) = accepts (tick t) (on_tick p a h.state i.fit e t to) (so_far Running e)
  tick_calls t (tick_in_a_switch stage e waits to) = accepts (tick t) (on_tick p a h.state i.fit e t to) (so_far stage e)
  tick_calls t (tick_too_late stage cause e to) = refuses (tick t) (ap (λ (x : Answer). x.verdict) (too_late p a h.state i.fit e (tick t)))

  status_calls : (word : ℕ) → StatusCase p.windows h.state word → CallsAreThePlans p (next (machine_of p) h (status word))
  status_calls word (saved e nought to) =
      let at = arrives p a (inr (subst (FitsPhase p h.state) e i.fit).place) in
      accepts (status word) (on_status p a h.state i.fit e refl word to)
      ((λ k. swap_for (sym (its_turn at) k) ∷ so_far SaveCtx e k) ∙ sym (then_swap p (ended_after p N)))
  status_calls word (programmed e nought to) =
      let at = arrives p a (subst (FitsPhase p h.state) e i.fit).place in
      accepts (status word) (on_status p a h.state i.fit e refl word to)
      ((λ k. resume_for (sym (its_turn at) k) ∷ so_far ProgramRegions e k) ∙ sym (then_resume p (ended_after p N)))
  status_calls word (runs_again e nought to) = accepts (status word) (on_status p a h.state i.fit e refl word to) (so_far Resume e)
  status_calls word (bad_status stage e waits bad to) = accepts (status word) (on_status p a h.state i.fit e waits word to) (so_far stage e)
  status_calls word (status_unasked_for e to) = refuses (status word) (ap (λ (x : Answer). x.verdict) (unasked p a h.state i.fit e word))
  status_calls word (status_too_late stage cause e to) = refuses (status word) (ap (λ (x : Answer). x.verdict) (too_late p a h.state i.fit e (status word)))

  -- while it runs, the latest two were for the current window's owner
  pub running_calls : h.state.phase ≡ At Running
      → calls_in h.entries
      ≡ resume_for (owner_of p h.state.current.0) ∷ swap_for (owner_of p h.state.current.0) ∷ first_calls p (3 * ended_after p N)
  running_calls e =
      let mine = its_turn (subst (FitsPhase p h.state) e i.fit).place in
      so_far Running e
      ∙ then_resume p (ended_after p N)
      ∙ ap (λ (calls : List CallWords). resume_for (owner_after p (ended_after p N)) ∷ calls) (then_swap p (ended_after p N))
      ∙ ap (λ (q : ℕ). resume_for q ∷ swap_for q ∷ first_calls p (3 * ended_after p N)) mine

  next_calls : (e : Event) → CallsAreThePlans p (next (machine_of p) h e)
  next_calls (tick t) = tick_calls t (tick_case (timetable_of p) h.state t)
  next_calls (status word) = status_calls word (status_case p.windows h.state word)

module _ (p : Plan) (a : plan.AcceptedIf p) where
  start_calls : CallsAreThePlans p (begin (cold_of p))
  unfolding first_calls
  start_calls =
      subst (CallsAreThePlans p) (sym (start_is p a))
      (ap (λ (w : ℕ). swap_for (owner_of p w) ∷ []) (sym (zero-mod (window_count p)))
      ∙ sym (then_swap p 0)
      ∙ ap (λ (s : ℕ). first_calls p (call_count 2 s)) (sym (none_ended (follow p a))))

  since_calls : (h : History) → Inv p h → CallsAreThePlans p h → (events : List Event) → CallsAreThePlans p (since (machine_of p) h events)
  since_calls h i c [] = c
  since_calls h i c (e ∷ events) = since_calls (next (machine_of p) h e) (next_inv p a h i e) (next_calls p a h i c e) events

  -- after any events from a cold start, stops included
  pub calls_are_the_plans : (events : List Event) → CallsAreThePlans p (history (machine_of p) events)
  calls_are_the_plans events = since_calls (begin (cold_of p)) (start_inv p a) start_calls events

-- no more ticks are taken than come
counted_at_most : (t : ℕ) (v : Verdict) (stops : Bool) (N : ℕ) → counted (tick t) v stops N ≤ N + 1
counted_at_most t (Ok _) true N = omega arith
counted_at_most t (Ok _) false N = omega arith
counted_at_most t (Err r) stops N = omega arith

taken_at_most : (m : Machine) (h : History) (events : List Event) → (since m h events).taken ≤ h.taken + length (ticks_of events)
taken_at_most m h [] = omega arith
taken_at_most m h (tick t ∷ events) =
    let a = m.answer h.state (tick t) in
    omega (arith, taken_at_most m (next m h (tick t)) events, counted_at_most t a.verdict (is_stopped a.state.phase) h.taken)
taken_at_most m h (status word ∷ events) = taken_at_most m (next m h (status word)) events

count_at_most : (stage s : ℕ) → call_count stage s ≤ 3 * s + 2
count_at_most zero s = omega arith
count_at_most (suc zero) s = omega arith
count_at_most (suc (suc zero)) s = omega arith
count_at_most (suc (suc (suc stage))) s = omega arith

-- so k ticks have brought at most 2 + 3k calls
pub calls_at_most : (p : Plan) → plan.AcceptedIf p → (events : List Event)
    → length (calls_in (history (machine_of p) events).entries) ≤ 2 + 3 * length (ticks_of events)
calls_at_most p a events =
    let h = history (machine_of p) events in
    let stage = (phase_words h.state.phase).stage in
    omega (
      arith,
      ap length (calls_are_the_plans p a events) ∙ length_first p (call_count stage (ended_after p h.taken)),
      count_at_most stage (ended_after p h.taken),
      ended_at_most (follow p a) h.taken,
      taken_at_most (machine_of p) (begin (cold_of p)) events,
    )
