-- Each bad version against the sentence that it breaks: a plan that has to be accepted, a tick in window 1, the two zeros that lead to Running, the
-- save that a window's last tick asks for.
-- Assumes nothing.
use mathlib.Core.List.{List, [], ◌∷◌, ◌++◌, cons-ne-nil}
use mathlib.Core.Logic.{inl, inr}
use mathlib.Core.Path.{◌≡◌, refl, sym, ap, ◌∙◌, subst}
use Prim.Native.Nat.{ℕ}
use native.Mathlib.Decide.{dec_lt}
use native.Mathlib.Omega.{arith}
use lib.ListN.{take, replicate}
use Rattle.refusal.specs.Verdict.{Verdict, accepted}
use Rattle.std.specs.Prelude.{Ok, Err}
use Rattle.verdict.specs.Outcome.{outcome}
use Rattle.verdict.proofs.First.{never_both}
use Rattle.verdict.proofs.Outcome.{same_outcome}
use Rattle.refusal.specs.First.{refuse_if, or_else}
use Rattle.verdict.specs.First.{refused, first_fault, upward, test_at, first_of}
use Rattle.timeline.specs.Windows.{next_of}
use Rattle.rows.specs.Rows.{rows_of}
use Rattle.rows.specs.Tests.{wrong_row_count}
use Rattle.plan.specs.Plan.{Plan, plan_of, frame_length}
use Rattle.plan.specs.Faults.{wrong_counts, wrong, past_counts, order, verdict_of}
use Rattle.timeline.specs.declared.Located.{Located}
use Rattle.records.specs.declared.WindowNo.{WindowNo}
use Rattle.protocol.specs.declared.PhaseWords.{PhaseWords}
use Rattle.protocol.specs.declared.Phase.{Phase}
use Rattle.protocol.specs.Numbers.{phase_words}
use Rattle.machine.specs.Guard.{placed_at, fits_at, state_verdict, guard_of}
use Rattle.state.specs.Start.{cold_move, if_accepted, cold_of}
use Rattle.machine.specs.Step.{tick_taken, tick_at, tick_in, tick_move, zero_at, reply_at, status_at, status_in, status_move}
use Rattle.machine.specs.Machine.{tick_of, status_verdict, status_of}
use Rattle.history.specs.Reached.{Event, tick, status, ticks_of, statuses_of}
use Rattle.history.specs.History.{Entry, called, answered, machine_of, history, since}
use Rattle.history.proofs.HistoryLaws.{start_phase}
use Rattle.demands.specs.Machine.{CheckAccepts, phase_number, HasStopped, Fault, FirstFault, Sentences}
use Rattle.demands.specs.Refusals.{RightVerdict, RightWindow}
use Rattle.cases.specs.Cases.{four, frame_a, ten_ticks}
use Rattle.cases.specs.BadVersions.{refuses_every, says_zero, never_moves, stops_at_once, asks_at_once, starts_running, runs_on, Invented, BadVersions, OneRightAnswer}
use Rattle.cases.proofs.Cases.{table}
use Rattle.demands.proofs.Refusals.{right_verdict}

first : {m n : ℕ × ℕ} → m ≡ n → m.0 ≡ n.0
first e = ap (λ (o : ℕ × ℕ). o.0) e

refuses_every_plan : ((p : Plan) → RightVerdict p (refuses_every p)) → ⊥
refuses_every_plan right =
    let sound = (right_verdict (frame_a [])).accepted.0 table.a_is_accepted in
    omega (arith, first ((right (frame_a [])).accepted.1 sound))

lookup_says_0 : ((p : Plan) (t : ℕ) → RightWindow p t (says_zero p t)) → ⊥
unfolding frame_a four
lookup_says_0 right =
    let there = ((right (frame_a []) 10).else_found table.a_is_accepted (omega arith)).1 in
    omega (arith, there.holds.not_ended)

phase : {v w : PhaseWords} → v ≡ w → v.phase ≡ w.phase
phase e = ap (λ (w : PhaseWords). w.phase) e

never_moves_lem : (p : Plan) → Sentences p (never_moves p) → ⊥
never_moves_lem p holds =
    let stays : phase_number (history (never_moves p) []) ≡ phase_number (history (never_moves p) (status 0 ∷ status 0 ∷ [])) = refl in
    omega (arith, stays, phase holds.begins.phase, holds.two_zeros)

stops_at_once_lem : (p : Plan) → Sentences p (stops_at_once p) → ⊥
stops_at_once_lem p holds = omega (arith, holds.two_zeros)

-- one window of one tick: the first tick is the window's last
one_tick : Plan
one_tick = plan_of (record { length = 1 }) (5 ∷ 0 ∷ 1 ∷ []) []

abbrev latest : List Entry → ℕ
latest [] = 0
latest (called call ∷ entries) = call.number
latest (answered word ∷ entries) = 0

starts_running_lem : (p : Plan) → Sentences p (starts_running p) → ⊥
starts_running_lem p holds = omega (arith, phase holds.begins.phase)

-- two zeros and then a tick that is not due: it is the first fault, since no zero is one
abbrev zeros : List Event
zeros = status 0 ∷ status 0 ∷ []

abbrev head_of : List Event → Event
head_of [] = status 0
head_of (e ∷ events) = e

abbrev rest_of : List Event → List Event
rest_of [] = []
rest_of (e ∷ events) = events

-- how many at least
abbrev some : List Event → ℕ
some [] = 0
some (e ∷ events) = 1

zero_at_lem : (b : List Event) (e : Event) (c : List Event) → zeros ≡ b ++ (e ∷ c) → status 0 ≡ e
zero_at_lem [] e c parts = ap head_of parts
zero_at_lem (f ∷ []) e c parts = ap head_of (ap rest_of parts)
zero_at_lem (f ∷ g ∷ []) e c parts = ap head_of (ap rest_of (ap rest_of parts))
zero_at_lem (f ∷ g ∷ i ∷ b) e c parts = absurd (omega (arith, ap some (ap rest_of (ap rest_of parts))))

late : FirstFault one_tick (runs_on one_tick) (history (runs_on one_tick) []) (status 0 ∷ status 0 ∷ tick 7 ∷ [])
unfolding one_tick
late =
    record {
      before = zeros;
      event = tick 7;
      after = [];
      in_order = refl;
      is_fault = inr (λ e. omega (arith, e));
      none_before =
          λ b e c parts fault. (subst (Fault one_tick (since (runs_on one_tick) (history (runs_on one_tick) []) b)) (sym (zero_at_lem b e c parts)) fault).1 refl;
    }

-- what the two machines over that plan say, by computing it
over_one_tick : CheckAccepts one_tick × (Sentences one_tick (asks_at_once one_tick) → ⊥) × (Sentences one_tick (runs_on one_tick) → ⊥)
unfolding one_tick refuse_if or_else refused first_fault upward test_at first_of next_of rows_of wrong_row_count wrong_counts wrong past_counts order verdict_of placed_at fits_at state_verdict guard_of cold_move tick_taken tick_at tick_in tick_move zero_at reply_at status_at status_in status_move if_accepted cold_of tick_of status_verdict status_of
over_one_tick = (
  refl,
  λ holds. omega (arith, ap latest ((holds.right_tick (status 0 ∷ status 0 ∷ []) holds.two_zeros).last refl)),
  λ holds. omega (arith, phase ((holds.stops _).at_the_first late).phase),
)

-- a run with nothing to take takes nothing; one with ten ticks and five zeros that says the same is not at its end
nothing_taken : (events : List Event) → ticks_of events ≡ [] → statuses_of events ≡ [] → events ≡ []
nothing_taken [] no_tick no_status = refl
nothing_taken (tick t ∷ events) no_tick no_status = absurd (cons-ne-nil t (ticks_of events) no_tick)
nothing_taken (status word ∷ events) no_tick no_status = absurd (cons-ne-nil word (statuses_of events) no_status)

invented_counts_lem : (ticks statuses calls : ℕ) → Invented ticks statuses calls → ⊥
invented_counts_lem ticks statuses calls holds =
    let none = (holds (frame_a []) table.a_is_accepted [] [] (replicate 4 0) (omega arith)).used in
    let ten = holds (frame_a []) table.a_is_accepted ten_ticks (0 ∷ 0 ∷ 0 ∷ 0 ∷ 0 ∷ []) (replicate 64 0) (omega arith) in
    let no_tick : ticks ≡ 0 = omega (arith, none.0) in
    let no_status : statuses ≡ 0 = omega (arith, none.1) in
    let nothing = nothing_taken ten.events (ten.ticks_in_order ∙ ap (λ (n : ℕ). take n ten_ticks) no_tick)
    (ten.statuses_in_order ∙ ap (λ (n : ℕ). take n (0 ∷ 0 ∷ 0 ∷ 0 ∷ 0 ∷ [])) no_status) in
    let starts = ap (λ (p : Phase). (phase_words p).phase) (start_phase (frame_a []) ((right_verdict (frame_a [])).accepted.0 table.a_is_accepted)) in
    elim ten.to_the_end [
      | inl stopped ↦ omega (arith, starts, subst (λ (events : List Event). HasStopped (history (machine_of (frame_a [])) events)) nothing stopped)
      | inr ends ↦ elim ends [ inl waits ↦ omega (arith, waits.1) | inr runs ↦ omega (arith, runs.1) ]
    ]

pub bad_versions : BadVersions
bad_versions =
    record {
      refuses_every_plan = refuses_every_plan;
      lookup_says_0 = lookup_says_0;
      never_moves_lem = never_moves_lem;
      stops_at_once_lem = stops_at_once_lem;
      asks_at_once_lem = λ holds. over_one_tick.1 (holds one_tick over_one_tick.0);
      starts_running_lem = starts_running_lem;
      runs_on_lem = λ holds. over_one_tick.2 (holds one_tick over_one_tick.0);
      invented_counts_lem = invented_counts_lem;
    }

pub one_right_answer : OneRightAnswer
one_right_answer =
    record {
      verdict = λ p v w right also. of p v w right also;
      window = λ p t l m right also. located_once p t l m right also;
    }
  where
    of : (p : Plan) (v w : Verdict) → RightVerdict p v → RightVerdict p w → v ≡ w
    of p (Ok _) w right also = sym (same_outcome w accepted (also.accepted.1 (right.accepted.0 refl)))
    of p (Err r) w right also = sym (same_outcome w (Err r) ((also.refused r).1 ((right.refused r).0 refl)))

    both : {l m : (Located WindowNo)} → outcome l.verdict ≡ outcome m.verdict → l.window.0 ≡ m.window.0 → l ≡ m
    both {l} {m} v w = λ k. record { window = record { 0 = w k }; verdict = same_outcome l.verdict m.verdict v k }

    located_once : (p : Plan) (t : ℕ) (l m : Located WindowNo) → RightWindow p t l → RightWindow p t m → l ≡ m
    located_once p t l m right also = by (verdict_of p) refl
      where
        by : (v : Verdict) → verdict_of p ≡ v → l ≡ m
        by (Err r) e =
            let refusal : CheckAccepts p → ⊥ = λ ok. never_both (sym (same_outcome (verdict_of p) accepted ok) ∙ e) in
            let a = right.first_the_plan refusal in
            let b = also.first_the_plan refusal in
            both (a.0 ∙ sym b.0) (a.1 ∙ sym b.1)
        by (Ok _) e =
            elim (dec_lt t (frame_length p)) [
              | yes below ↦
                  let a = right.else_found (ap outcome e) below in
                  let b = also.else_found (ap outcome e) below in
                  both (a.0 ∙ sym b.0) (b.1.no_other _ a.1.is_window a.1.holds)
              | no past ↦
                  let a = right.then_12 (ap outcome e) (omega arith) in
                  let b = also.then_12 (ap outcome e) (omega arith) in
                  both (a.0 ∙ sym b.0) (a.1 ∙ sym b.1)
            ]
