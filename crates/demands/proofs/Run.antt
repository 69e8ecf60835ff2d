-- A run goes where the machine goes, turn by turn: `Tracks`, what holds of it before a call is logged, and `Logged`, after. The calls so far are the plan's,
-- so the call that an answer brings is the next of them, and the log has room for it.
-- Assumes nothing.
use Rattle.std.specs.Prelude.{Option, Some, None, Ok, Err}
use mathlib.Core.Bool.{Bool, true, false, cond, true≢false, false≢true}
use mathlib.Core.List.{List, [], ◌∷◌, ◌++◌, append-nil, head-eq_of_cons-eq}
use mathlib.Core.Logic.{inl, inr}
use mathlib.Core.Path.{◌≡◌, refl, sym, ap, ◌∙◌, subst}
use Prim.Native.Nat.{ℕ, zero, suc, ◌+◌, ◌*◌, ◌/◌, ◌≤◌, ◌<◌}
use native.Mathlib.Nat.{zero-mod}
use native.Mathlib.Numerals.{add-one}
use native.Mathlib.Decide.{dec_lt}
use native.Mathlib.Omega.{arith}
use lib.ListN.{length, get_or, take, drop, set, length-set}
use lib.Seq.{take-suc, length-take-le}
use Rattle.plan.specs.Plan.{Plan, window_count, owner_of}
use Rattle.plan.specs.Faults.{verdict_of}
use Rattle.accepted.specs.Accepted as plan
use Rattle.accepted.proofs.AcceptedLaws.{all_accepted}
use Rattle.protocol.specs.declared.Call.{Call}
use Rattle.protocol.specs.declared.Call.TheVariants.{SaveFor, SwapFor, ResumeFor}
use Rattle.protocol.specs.declared.CallWords.{CallWords}
use Rattle.protocol.specs.declared.Stage.TheVariants.{Running, SaveCtx, ProgramRegions, Resume}
use Rattle.protocol.specs.declared.Phase.{Phase}
use Rattle.protocol.specs.declared.Phase.TheVariants.{At, Stopped}
use Rattle.protocol.specs.Phase.{call_open, is_stopped}
use Rattle.protocol.specs.Numbers.{swap_for, call_words, phase_words}
use Rattle.refusal.specs.declared.Refusal.{Refusal}
use Rattle.refusal.specs.declared.Refusal.TheVariants.{LogTooShort}
use Rattle.refusal.specs.Table.{number_of, place_of}
use Rattle.verdict.specs.Outcome.{outcome}
use Rattle.refusal.specs.Verdict.{Verdict, accepted}
use Rattle.run_log.specs.Log.{asks, call_log}
use Rattle.run_log.proofs.LogLaws.{too_few, long_enough, one_call_more}
use Rattle.state.specs.declared.State.{State}
use Rattle.state.specs.declared.Answer.{Answer}
use Rattle.state.specs.Start.{cold_move}
use Rattle.machine.specs.Step.{timetable_of}
use Rattle.history.specs.Reached.{Event, tick, status, ticks_of, statuses_of}
use Rattle.history.specs.History.{Machine, machine_of, Entry, History, answer_of, counted, go_on, heard, said, next, since, history}
use Rattle.history.specs.Cases.{TickCase, window_goes_on, window_ends, wrong_tick, tick_in_a_switch, tick_too_late, StatusCase, saved, programmed, runs_again, bad_status, status_unasked_for, status_too_late}
use Rattle.history.specs.Calls.{call_at, first_calls, calls_in, call_count, ended_after}
use Rattle.history.proofs.Cases.{tick_case, status_case}
use Rattle.history.proofs.Answers.{too_late, on_tick, on_status, unasked}
use Rattle.history.proofs.HistoryLaws.{Inv, since_on, start_is, history_inv}
use Rattle.history.proofs.CallLaws.{call_swap, calls_are_the_plans, calls_at_most, length_first}
use Rattle.machine.proofs.FitsLaws.{Fits}
use Rattle.demands.specs.Machine.{HasStopped, Open, Sentences}
use Rattle.machine.specs.declared.Course.{Course}
use Rattle.machine.specs.declared.RunAnswer.{RunAnswer}
use Rattle.machine.proofs.RunLaws.{no_tick, takes_tick, no_status, takes_status, turn_stopped, turn_open, turn_quiet, one_turn_fewer, one_turn_more, logs_the_call, logs_nothing, all_done, plan_first, then_16, runs_refused, runs_whole, let_in}
use Rattle.machine.specs.Run.{took, turn, Progress, progress, with_logged, go_on as goOnRun, left, ended, run_verdict, cold_course, whole, run_of, log_of}
use Rattle.demands.specs.Run.{Next, ByTheRule, AtTheEnd, stopping_tick, IsTheMachine, RunsAreTheMachine, SentencesAt, RunsMeetDemand3, RunRefused, RefusedRuns}
use Rattle.demands.proofs.Machine.{accepts, stopped_number, not_open, is_open, demand_3}
use Rattle.demands.proofs.Refusals.{told, check_accepts}
use Rattle.demands.proofs.Calls.{the_plans_calls}

-- a call waits for its status
abbrev open_phase : Phase → Bool
open_phase (At stage) = call_open stage
open_phase (Stopped stage cause) = false

-- an answer asks for a call exactly if it leaves one open
module _ (p : Plan) (a : plan.AcceptedIf p) (s : State) (f : Fits p s) where
  abbrev AsksAsOpen : Answer → Type 0
  AsksAsOpen x = asks x.call ≡ open_phase x.state.phase

  by : {x to : Answer} → x ≡ to → AsksAsOpen to → AsksAsOpen x
  by says = subst AsksAsOpen (sym says)

  tick_asks : (t : ℕ) → TickCase (timetable_of p) s t → AsksAsOpen (answer_of p s (tick t))
  tick_asks t (window_goes_on e due more to) = by (on_tick p a s f e t to) (sym (ap open_phase e))
  tick_asks t (window_ends e due last to) = by (on_tick p a s f e t to) refl
  tick_asks t (wrong_tick e wrong to) = by (on_tick p a s f e t to) refl
  tick_asks t (tick_in_a_switch stage e waits to) = by (on_tick p a s f e t to) refl
  tick_asks t (tick_too_late stage cause e to) = by (too_late p a s f e (tick t)) (sym (ap open_phase e))

  status_asks : (word : ℕ) → StatusCase p.windows s word → AsksAsOpen (answer_of p s (status word))
  status_asks word (saved e nought to) = by (on_status p a s f e refl word to) refl
  status_asks word (programmed e nought to) = by (on_status p a s f e refl word to) refl
  status_asks word (runs_again e nought to) = by (on_status p a s f e refl word to) refl
  status_asks word (bad_status stage e waits bad to) = by (on_status p a s f e waits word to) refl
  status_asks word (status_unasked_for e to) = by (unasked p a s f e word) (sym (ap open_phase e))
  status_asks word (status_too_late stage cause e to) = by (too_late p a s f e (status word)) (sym (ap open_phase e))

  asks_as_open : (e : Event) → AsksAsOpen (answer_of p s e)
  asks_as_open (tick t) = tick_asks t (tick_case (timetable_of p) s t)
  asks_as_open (status word) = status_asks word (status_case p.windows s word)

-- what an answer adds to the calls
heard_calls : (e : Event) (v : Verdict) (entries : List Entry) → calls_in (heard e v entries) ≡ calls_in entries
heard_calls (tick t) v entries = refl
heard_calls (status word) (Ok _) entries = refl
heard_calls (status word) (Err r) entries = refl

said_count : (call : Option Call) (entries : List Entry) → length (calls_in (said call entries)) ≡ length (calls_in entries) + cond (asks call) 1 0
said_count None entries = omega arith
said_count (Some (SaveFor q)) entries = omega arith
said_count (Some (SwapFor q)) entries = omega arith
said_count (Some (ResumeFor q)) entries = omega arith

said_last : (call : Option Call) (entries : List Entry) → asks call ≡ true → calls_in (said call entries) ≡ call_words call ∷ calls_in entries
said_last None entries asked = absurd (false≢true asked)
said_last (Some (SaveFor q)) entries asked = refl
said_last (Some (SwapFor q)) entries asked = refl
said_last (Some (ResumeFor q)) entries asked = refl

-- the lists of events, with one more
ticks_more : (events : List Event) (e : Event) → ticks_of (events ++ (e ∷ [])) ≡ ticks_of events ++ ticks_of (e ∷ [])
ticks_more [] e = refl
ticks_more (tick t ∷ events) e = ap (λ (l : List ℕ). t ∷ l) (ticks_more events e)
ticks_more (status word ∷ events) e = ticks_more events e

statuses_more : (events : List Event) (e : Event) → statuses_of (events ++ (e ∷ [])) ≡ statuses_of events ++ statuses_of (e ∷ [])
statuses_more [] e = refl
statuses_more (tick t ∷ events) e = statuses_more events e
statuses_more (status word ∷ events) e = ap (λ (l : List ℕ). word ∷ l) (statuses_more events e)

rule_more : (m : Machine) (h : History) (events : List Event) (e : Event) → ByTheRule m h events → Next (since m h events) e → ByTheRule m h (events ++ (e ∷ []))
rule_more m h [] e rule due = (due, tt)
rule_more m h (x ∷ events) e rule due = (rule.0, rule_more m (next m h x) events e rule.1 due)

-- a tick is taken, or it stops the machine
abbrev one_tick : Event → ℕ
one_tick (tick t) = 1
one_tick (status word) = 0

module _ (p : Plan) (a : plan.AcceptedIf p) (h : History) (i : Inv p h) where
  abbrev Counts : Event → Answer → Type 0
  Counts e x = (go_on h e x).taken + stopping_tick (phase_words x.state.phase).cause ≡ h.taken + one_tick e

  tick_counts : (t : ℕ) → is_stopped h.state.phase ≡ false → TickCase (timetable_of p) h.state t → Counts (tick t) (answer_of p h.state (tick t))
  tick_counts t goes (window_goes_on e due more to) =
      subst (Counts (tick t)) (sym (on_tick p a h.state i.fit e t to))
      (ap (λ (phase : Phase). counted (tick t) accepted (is_stopped phase) h.taken + stopping_tick (phase_words phase).cause) e ∙ omega arith)
  tick_counts t goes (window_ends e due last to) = subst (Counts (tick t)) (sym (on_tick p a h.state i.fit e t to)) (omega arith)
  tick_counts t goes (wrong_tick e wrong to) = subst (Counts (tick t)) (sym (on_tick p a h.state i.fit e t to)) refl
  tick_counts t goes (tick_in_a_switch stage e waits to) = subst (Counts (tick t)) (sym (on_tick p a h.state i.fit e t to)) refl
  tick_counts t goes (tick_too_late stage cause e to) = absurd (false≢true (sym goes ∙ ap is_stopped e))

  status_counts : (word : ℕ) → is_stopped h.state.phase ≡ false → StatusCase p.windows h.state word → Counts (status word) (answer_of p h.state (status word))
  status_counts word goes (saved e nought to) = subst (Counts (status word)) (sym (on_status p a h.state i.fit e refl word to)) refl
  status_counts word goes (programmed e nought to) = subst (Counts (status word)) (sym (on_status p a h.state i.fit e refl word to)) refl
  status_counts word goes (runs_again e nought to) = subst (Counts (status word)) (sym (on_status p a h.state i.fit e refl word to)) refl
  status_counts word goes (bad_status stage e waits bad to) = subst (Counts (status word)) (sym (on_status p a h.state i.fit e waits word to)) refl
  status_counts word goes (status_unasked_for e to) =
      subst (Counts (status word)) (sym (unasked p a h.state i.fit e word)) (ap (λ (phase : Phase). h.taken + stopping_tick (phase_words phase).cause) e)
  status_counts word goes (status_too_late stage cause e to) = absurd (false≢true (sym goes ∙ ap is_stopped e))

  counts : (e : Event) → is_stopped h.state.phase ≡ false → Counts e (answer_of p h.state e)
  counts (tick t) goes = tick_counts t goes (tick_case (timetable_of p) h.state t)
  counts (status word) goes = status_counts word goes (status_case p.windows h.state word)

  -- what the history says of a machine that goes on
  goes_on : is_stopped h.state.phase ≡ false → HasStopped h → ⊥
  goes_on goes stopped = false≢true (sym goes ∙ (stopped_number h.state.phase).0 stopped)

  waiting : (phase : Phase) → h.state.phase ≡ phase → open_phase phase ≡ true → Open h
  waiting (At stage) e waits = is_open p a h i stage e waits
  waiting (Stopped stage cause) e waits = absurd (false≢true waits)

  idle : (phase : Phase) → h.state.phase ≡ phase → is_stopped phase ≡ false → open_phase phase ≡ false → Open h → ⊥
  idle (At Running) e goes none = not_open p a h i e
  idle (At SaveCtx) e goes none = absurd (true≢false none)
  idle (At ProgramRegions) e goes none = absurd (true≢false none)
  idle (At Resume) e goes none = absurd (true≢false none)
  idle (Stopped stage cause) e goes none = absurd (true≢false goes)

no_stopping_tick : (phase : Phase) → is_stopped phase ≡ false → stopping_tick (phase_words phase).cause ≡ 0
no_stopping_tick (At stage) goes = refl
no_stopping_tick (Stopped stage cause) goes = absurd (true≢false goes)

module _ (p : Plan) (a : plan.AcceptedIf p) (ticks statuses log₀ : List ℕ) (long : 4 + 6 * length ticks ≤ length log₀) where
  abbrev H : List Event → History
  H events = history (machine_of p) events

  -- a run has come as far as the machine after these events; of the calls, so many are not in the log yet
  record Tracks (g : Progress) (unlogged : ℕ) (events : List Event) : Type 0 where
    state : g.course.state ≡ (H events).state
    ticks_in_order : ticks_of events ≡ take g.course.ticks ticks
    statuses_in_order : statuses_of events ≡ take g.course.statuses statuses
    ticks_used : g.course.ticks ≤ length ticks
    statuses_used : g.course.statuses ≤ length statuses
    by_the_rule : ByTheRule (machine_of p) (H []) events
    waits : asks g.course.call ≡ open_phase g.course.state.phase
    taken : (H events).taken + stopping_tick (phase_words g.course.state.phase).cause ≡ g.course.ticks
    count : length (calls_in (H events).entries) ≡ g.calls + unlogged
    in_the_log : g.log ≡ call_log (call_at p) g.calls ++ drop (g.calls * 2) log₀
    as_long : length g.log ≡ length log₀

  -- the call of the last answer is the plan's next
  abbrev NextCall : Progress → Type 0
  NextCall g = asks g.course.call ≡ true → call_words g.course.call ≡ call_at p g.calls

  -- which goes into the log: there is room for it
  module _ (g : Progress) (events : List Event) (t : Tracks g (cond (asks g.course.call) 1 0) events) (its : NextCall g) where
    abbrev call : Option Call
    call = g.course.call

    abbrev after : Progress
    after = with_logged g g.course

    with_log : length (calls_in (H events).entries) ≡ after.calls + 0 → after.log ≡ call_log (call_at p) after.calls ++ drop (after.calls * 2) log₀
        → length after.log ≡ length log₀ → Tracks after 0 events
    with_log count in_the_log as_long =
        record {
          state = t.state;
          ticks_in_order = t.ticks_in_order;
          statuses_in_order = t.statuses_in_order;
          ticks_used = t.ticks_used;
          statuses_used = t.statuses_used;
          by_the_rule = t.by_the_rule;
          waits = t.waits;
          taken = t.taken;
          count = count;
          in_the_log = in_the_log;
          as_long = as_long;
        }

    few : length (calls_in (H events).entries) ≤ 2 + 3 * length ticks
    few =
        omega (
          arith,
          calls_at_most p a events,
          ap length t.ticks_in_order ∙ length-take-le g.course.ticks ticks t.ticks_used,
          t.ticks_used,
        )

    logs : Tracks after 0 events
    logs = of (asks call) refl
      where
        of : (b : Bool) → asks call ≡ b → Tracks after 0 events
        of false e =
            let same = logs_nothing g g.course e in
            let one = ap (λ (b : Bool). g.calls + cond b 1 0) e in
            with_log (t.count ∙ one ∙ ap (λ (n : ℕ). n + 0) (sym same.0))
            (same.1 ∙ t.in_the_log ∙ ap (λ (n : ℕ). call_log (call_at p) n ++ drop (n * 2) log₀) (sym same.0))
            (ap length same.1 ∙ t.as_long)
        of true e =
            let one = ap (λ (b : Bool). g.calls + cond b 1 0) e in
            let room : g.calls < length log₀ / 2 = omega (arith, t.count ∙ one, few, long) in
            let more = logs_the_call g g.course e (omega (arith, room, t.as_long)) in
            let words = ap (λ (w : CallWords). set (set g.log (g.calls * 2) w.number) (g.calls * 2 + 1) w.partition) (its e) in
            let k : after.calls ≡ suc g.calls = more.0 ∙ add-one g.calls in
            with_log (t.count ∙ one ∙ omega (arith, more.0))
            (more.1 ∙ words
            ∙ ap (λ (l : List ℕ). set (set l (g.calls * 2) (call_at p g.calls).number) (g.calls * 2 + 1) (call_at p g.calls).partition) t.in_the_log
            ∙ one_call_more (call_at p) log₀ g.calls room
            ∙ ap (λ (n : ℕ). call_log (call_at p) n ++ drop (n * 2) log₀) (sym k))
            (ap length more.1
            ∙ length-set (set g.log (g.calls * 2) (call_words call).number) (g.calls * 2 + 1) (call_words call).partition
            ∙ length-set g.log (g.calls * 2) (call_words call).number
            ∙ t.as_long)

  -- one event more
  module _ (g : Progress) (events : List Event) (t : Tracks g 0 events) (goes : is_stopped g.course.state.phase ≡ false) (e : Event) where
    abbrev x : Answer
    x = answer_of p g.course.state e

    abbrev more : List Event
    more = events ++ (e ∷ [])

    -- the history after it
    then : H more ≡ go_on (H events) e x
    then =
        since_on (machine_of p) (H []) events (e ∷ [])
        ∙ ap (λ (s : State). go_on (H events) e (answer_of p s e)) (sym t.state)

    calls_then : calls_in (H more).entries ≡ calls_in (said x.call (heard e x.verdict (H events).entries))
    calls_then = ap (λ (h : History). calls_in h.entries) then

    count_then : length (calls_in (H more).entries) ≡ g.calls + cond (asks x.call) 1 0
    count_then =
        ap length calls_then
        ∙ said_count x.call (heard e x.verdict (H events).entries)
        ∙ ap (λ (n : ℕ). n + cond (asks x.call) 1 0) (ap length (heard_calls e x.verdict (H events).entries) ∙ t.count)
        ∙ omega arith

    -- the call that it brings is the plan's next
    next_call : asks x.call ≡ true → call_words x.call ≡ call_at p g.calls
    unfolding first_calls
    next_call asked =
        let M = call_count (phase_words (H more).state.phase).stage (ended_after p (H more).taken) in
        let plans = calls_are_the_plans p a more in
        let one : length (calls_in (H more).entries) ≡ suc g.calls = count_then ∙ ap (λ (b : Bool). g.calls + cond b 1 0) asked ∙ add-one g.calls in
        let last : M ≡ suc g.calls = sym (length_first p M) ∙ sym (ap length plans) ∙ one in
        head-eq_of_cons-eq (sym (calls_then ∙ said_last x.call (heard e x.verdict (H events).entries) asked) ∙ plans ∙ ap (first_calls p) last)

    fits : Inv p (H events)
    fits = history_inv p a events

    waits_then : asks x.call ≡ open_phase x.state.phase
    waits_then = asks_as_open p a g.course.state (subst (Fits p) (sym t.state) fits.fit) e

    going : is_stopped (H events).state.phase ≡ false
    going = ap (λ (s : State). is_stopped s.phase) (sym t.state) ∙ goes

    taken_then : (H more).taken + stopping_tick (phase_words x.state.phase).cause ≡ g.course.ticks + one_tick e
    taken_then =
        let counted-so =
        subst (λ (s : State). (go_on (H events) e (answer_of p s e)).taken + stopping_tick (phase_words (answer_of p s e).state.phase).cause ≡ (H events).taken + one_tick e)
        (sym t.state) (counts p a (H events) fits e going) in
        let all-taken : (H events).taken ≡ g.course.ticks = omega (arith, t.taken, no_stopping_tick g.course.state.phase goes) in
        ap (λ (h : History). h.taken + stopping_tick (phase_words x.state.phase).cause) then ∙ counted-so ∙ ap (λ (n : ℕ). n + one_tick e) all-taken

    -- so the run tracks it, with what the turn takes
    took_it : (i j : ℕ) → i ≡ g.course.ticks + one_tick e → ticks_of more ≡ take i ticks → i ≤ length ticks → statuses_of more ≡ take j statuses → j ≤ length statuses
        → Next (H events) e → Tracks (progress (took x i j) g.calls g.log) (cond (asks x.call) 1 0) more
    took_it i j one ticks_in_order ticks_used statuses_in_order statuses_used due =
        record {
          state = sym (ap (λ (h : History). h.state) then);
          ticks_in_order = ticks_in_order;
          statuses_in_order = statuses_in_order;
          ticks_used = ticks_used;
          statuses_used = statuses_used;
          by_the_rule = rule_more (machine_of p) (H []) events e t.by_the_rule due;
          waits = waits_then;
          taken = taken_then ∙ sym one;
          count = count_then;
          in_the_log = t.in_the_log;
          as_long = t.as_long;
        }

  -- a turn: the run is at its end, or takes the event that the rule asks for
  data Turned (g : Progress) (events : List Event) : Type 0 where
    at_end : turn p ticks statuses g.course ≡ None → AtTheEnd ticks statuses (H events) (ended g) → Turned g events
    took_one : (c : Course) (e : Event) → turn p ticks statuses g.course ≡ Some c
        → Tracks (progress c g.calls g.log) (cond (asks c.call) 1 0) (events ++ (e ∷ [])) → NextCall (progress c g.calls g.log) → Turned g events

  module _ (g : Progress) (events : List Event) (t : Tracks g 0 events) where
    abbrev c : Course
    c = g.course

    inv : Inv p (H events)
    inv = history_inv p a events

    -- its phase is the machine's
    phase : c.state.phase ≡ (H events).state.phase
    phase = ap (λ (s : State). s.phase) t.state

    module _ (goes : is_stopped c.state.phase ≡ false) where
      not_stopped : HasStopped (H events) → ⊥
      not_stopped = goes_on p a (H events) inv (ap is_stopped (sym phase) ∙ goes)

      has_open : asks c.call ≡ true → Open (H events)
      has_open asked = waiting p a (H events) inv (H events).state.phase refl (ap open_phase (sym phase) ∙ sym t.waits ∙ asked)

      has_none : asks c.call ≡ false → Open (H events) → ⊥
      has_none asked = idle p a (H events) inv (H events).state.phase refl (ap is_stopped (sym phase) ∙ goes) (ap open_phase (sym phase) ∙ sym t.waits ∙ asked)

      by_status : asks c.call ≡ true → Turned g events
      by_status asked =
          elim (dec_lt c.statuses (length statuses)) [
            | yes some ↦
                let word = get_or statuses c.statuses 0 in
                let e = status word in
                let takes = turn_open p ticks statuses c goes asked ∙ takes_status p c statuses some in
                took_one _ e takes
                (took_it g events t goes e c.ticks (c.statuses + 1) (omega arith)
                (ticks_more events e ∙ append-nil (ticks_of events) ∙ t.ticks_in_order) t.ticks_used
                (statuses_more events e
                ∙ ap (λ (l : List ℕ). l ++ (word ∷ [])) t.statuses_in_order
                ∙ sym (ap (λ (n : ℕ). take n statuses) (add-one c.statuses) ∙ take-suc statuses c.statuses 0 some))
                (omega arith)
                (not_stopped, has_open asked))
                (next_call g events t goes e)
            | no none ↦
                at_end (turn_open p ticks statuses c goes asked ∙ no_status p c statuses (omega arith))
                (inr (inl (has_open asked, omega (arith, t.statuses_used))))
          ]

      by_tick : asks c.call ≡ false → Turned g events
      by_tick none_open =
          elim (dec_lt c.ticks (length ticks)) [
            | yes some ↦
                let at = get_or ticks c.ticks 0 in
                let e = tick at in
                let takes = turn_quiet p ticks statuses c goes none_open ∙ takes_tick p c ticks some in
                took_one _ e takes
                (took_it g events t goes e (c.ticks + 1) c.statuses refl
                (ticks_more events e
                ∙ ap (λ (l : List ℕ). l ++ (at ∷ [])) t.ticks_in_order
                ∙ sym (ap (λ (n : ℕ). take n ticks) (add-one c.ticks) ∙ take-suc ticks c.ticks 0 some))
                (omega arith)
                (statuses_more events e ∙ append-nil (statuses_of events) ∙ t.statuses_in_order) t.statuses_used
                (not_stopped, has_none none_open))
                (next_call g events t goes e)
            | no none ↦
                at_end (turn_quiet p ticks statuses c goes none_open ∙ no_tick p c ticks (omega arith))
                (inr (inr (has_none none_open, omega (arith, t.ticks_used))))
          ]

    turned : Turned g events
    turned = of (is_stopped c.state.phase) (asks c.call) refl refl
      where
        of : (stopped asked : Bool) → is_stopped c.state.phase ≡ stopped → asks c.call ≡ asked → Turned g events
        of true asked e f =
            at_end (turn_stopped p ticks statuses c e) (inl ((stopped_number (H events).state.phase).1 (ap is_stopped (sym phase) ∙ e)))
        of false true e f = by_status e f
        of false false e f = by_tick e f

  -- all turns
  record Finished (g : Progress) : Type 0 where
    events : List Event
    tracks : Tracks g 0 events
    to_the_end : AtTheEnd ticks statuses (H events) (ended g)

  finish : (turns : ℕ) (g : Progress) (events : List Event) → Tracks g (cond (asks g.course.call) 1 0) events → NextCall g
      → left ticks statuses g.course ≤ turns → Finished (goOnRun p ticks statuses turns g)
  finish zero g events t its enough = absurd (omega arith)
  finish (suc turns) g events t its enough = of (finish turns) (turned (after g events t its) events (logs g events t its))
    where
      of : ((g : Progress) (events : List Event) → Tracks g (cond (asks g.course.call) 1 0) events → NextCall g
          → left ticks statuses g.course ≤ turns → Finished (goOnRun p ticks statuses turns g))
          → Turned (after g events t its) events → Finished (goOnRun p ticks statuses (suc turns) g)
      of rest (at_end is end) =
          subst Finished (sym (all_done p ticks statuses g turns is))
          (record { events = events; tracks = logs g events t its; to_the_end = end })
      of rest (took_one c e is tracks its-next) =
          subst Finished (sym (one_turn_more p ticks statuses g turns c is))
          (rest (with_logged g c) (events ++ (e ∷ [])) tracks its-next (omega (arith, one_turn_fewer p ticks statuses g.course c is, enough)))

  -- the cold start
  abbrev start : Progress
  start = progress (cold_course p) 0 log₀

  start_tracks : Tracks start (cond (asks start.course.call) 1 0) []
  unfolding cold_move call_log
  start_tracks =
      record {
        state = sym (ap (λ (h : History). h.state) (start_is p a));
        ticks_in_order = refl;
        statuses_in_order = refl;
        ticks_used = omega arith;
        statuses_used = omega arith;
        by_the_rule = tt;
        waits = refl;
        taken = refl;
        count = ap (λ (h : History). length (calls_in h.entries)) (start_is p a);
        in_the_log = refl;
        as_long = refl;
      }

  start_call : NextCall start
  unfolding cold_move
  start_call asked = ap (λ (w : ℕ). swap_for (owner_of p w)) (sym (zero-mod (window_count p))) ∙ sym (call_swap p 0)

  whole_run : Finished (whole p ticks statuses log₀)
  whole_run = finish (left ticks statuses (cold_course p)) start [] start_tracks start_call (omega arith)

  answer : IsTheMachine p ticks statuses log₀ (ended (whole p ticks statuses log₀)) (whole p ticks statuses log₀).log
  answer =
      let t = whole_run.tracks in
      record {
        verdict = refl;
        events = whole_run.events;
        by_the_rule = t.by_the_rule;
        ticks_in_order = t.ticks_in_order;
        statuses_in_order = t.statuses_in_order;
        used = (t.ticks_used, t.statuses_used);
        to_the_end = whole_run.to_the_end;
        state = t.state;
        taken = t.taken;
        calls = omega (arith, t.count);
        in_the_log = t.in_the_log;
      }

  let_in_run : run_verdict p ticks log₀ ≡ accepted
  let_in_run = let_in p ticks log₀ (all_accepted p a) (long_enough (length log₀) (length ticks) long)

pub runs_are_the_machine : RunsAreTheMachine
runs_are_the_machine p ok ticks statuses log long =
    let a = accepts p ok in
    let r = runs_whole p ticks statuses log (let_in_run p a ticks statuses log long) in
    subst (λ (x : RunAnswer). IsTheMachine p ticks statuses log x (log_of p ticks statuses log)) (sym r.0)
    (subst (IsTheMachine p ticks statuses log (ended (whole p ticks statuses log))) (sym r.1) (answer p a ticks statuses log long))

sentences_at : (p : Plan) → Sentences p (machine_of p) → (events : List Event) → SentencesAt p (machine_of p) events
sentences_at p all events =
    record {
      stops = all.stops events;
      stays_stopped = all.stays_stopped events;
      runs_or_waits = all.runs_or_waits events;
      right_tick = all.right_tick events;
      zero_goes_on = all.zero_goes_on events;
      while_running = all.while_running events;
    }

pub runs_meet_demand_3 : RunsMeetDemand3
runs_meet_demand_3 p u32 ok ticks statuses log long =
    let run = runs_are_the_machine p ok ticks statuses log long in
    record { run = run; holds = sentences_at p (demand_3 p u32 ok) run.events; calls = the_plans_calls p ok run.events }

-- a refused run
refused_as : (p : Plan) (ticks statuses log : List ℕ) (r : Refusal) → run_verdict p ticks log ≡ Err r
    → RunRefused (number_of r) (place_of r) log (run_of p ticks statuses log) (log_of p ticks statuses log)
refused_as p ticks statuses log r e =
    let (answers, leaves) = runs_refused p ticks statuses log r e in
    subst (λ (x : RunAnswer). RunRefused (number_of r) (place_of r) log x (log_of p ticks statuses log)) (sym answers)
    (record { verdict = refl; state = refl; counts = (refl, refl, refl); untouched = leaves })

pub refused_runs : RefusedRuns
refused_runs p ticks statuses log =
    record {
      first_the_plan = λ refusal.
          let (r, e) = told (verdict_of p) refusal in
          subst (λ (o : ℕ × ℕ). RunRefused o.0 o.1 log (run_of p ticks statuses log) (log_of p ticks statuses log)) (sym (ap outcome e))
          (refused_as p ticks statuses log r (plan_first p ticks log r e));
      then_16 = λ ok short.
          refused_as p ticks statuses log LogTooShort (then_16 p ticks log (check_accepts p ok) (too_few (length log) (length ticks) short));
    }
