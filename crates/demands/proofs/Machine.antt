-- Each event either is refused, or stops the machine, or leaves it going: `what_it_does`, by the cases of a step and what holds of any history
-- (`Inv`, crate `history`). The sentences on stops follow by induction on the events, the others from `Inv` alone.
-- Assumes nothing.
use mathlib.Core.Bool.{cond, not, Bool, true, false, true≢false, false≢true}
use mathlib.Core.List.{List, [], ◌∷◌, ◌++◌, cons-ne-nil, head-eq_of_cons-eq, tail-eq_of_cons-eq}
use mathlib.Core.Logic.{◌↔◌, inl, inr}
use mathlib.Core.Path.{◌≡◌, refl, sym, ap, ◌∙◌, subst}
use Prim.Native.Nat.{ℕ, ◌+◌}
use native.Mathlib.Omega.{arith}
use Rattle.refusal.specs.declared.Refusal.TheVariants.{MachineStopped}
use Rattle.refusal.specs.Verdict.{accepted}
use Rattle.verdict.specs.Outcome.{outcome}
use Rattle.verdict.proofs.Outcome.{same_outcome}
use Rattle.timeline.specs.Windows.{Holds}
use Rattle.timeline.proofs.Laws.{share_no_tick}
use Rattle.plan.specs.Plan.{Plan, owner_of, offset_of, budget_of}
use Rattle.plan.specs.Faults.{verdict_of}
use Rattle.accepted.specs.Accepted as plan
use Rattle.accepted.proofs.AcceptedLaws.{accepted_all, all_accepted}
use Rattle.accepted.proofs.FollowLaws.{follow}
use Rattle.words.proofs.Reach.{separation}
use Rattle.protocol.specs.declared.CallWords.{CallWords}
use Rattle.protocol.specs.declared.Stage.{Stage}
use Rattle.protocol.specs.declared.Stage.TheVariants.{Running, SaveCtx, ProgramRegions, Resume}
use Rattle.protocol.specs.declared.Cause.{Cause}
use Rattle.protocol.specs.declared.Cause.TheVariants.{WrongTick, TickInSwitch, BadStatus}
use Rattle.protocol.specs.declared.Phase.{Phase}
use Rattle.protocol.specs.declared.Phase.TheVariants.{At, Stopped}
use Rattle.protocol.specs.Phase.{call_open, runs, is_stopped}
use Rattle.protocol.specs.Numbers.{no_call, save_for, swap_for, resume_for, call_words, stage_number, phase_of, phase_words}
use Rattle.state.specs.declared.State.{State}
use Rattle.state.specs.declared.Answer.{Answer}
use Rattle.state.specs.State.{in_phase, stopped}
use Rattle.state.specs.Answer.{owner}
use Rattle.state.specs.Start.{cold_move, cold_of}
use Rattle.machine.specs.Step.{timetable_of}
use Rattle.history.specs.Cases.{TickCase, window_goes_on, window_ends, wrong_tick, tick_in_a_switch, tick_too_late, StatusCase, saved, programmed, runs_again, bad_status, status_unasked_for, status_too_late}
use Rattle.history.specs.Reached.{Event, tick, status, word_of}
use Rattle.history.specs.History.{machine_of, called, answered, History, answer_of, begin, go_on, next, since, history, open_call}
use Rattle.history.proofs.Cases.{tick_case, status_case}
use Rattle.machine.proofs.FitsLaws.{FitsPhase, Fits}
use Rattle.history.proofs.Answers.{too_late, on_tick, on_status, unasked, refused_not_counted, zero_swaps, zero_resumes, zero_runs}
use Rattle.history.proofs.EqualLaws.{same_history}
use Rattle.state.proofs.StartLaws.{cold_accepted}
use Rattle.history.proofs.HistoryLaws.{TalkOf, Inv, since_on, start_phase, start_is, start_inv, next_inv, history_inv}
use Rattle.demands.specs.Machine.{CheckAccepts, phase_number, Runs, HasStopped, Open, right, Fault, FirstFault, cause_number, entered, Kept, StopsExactly, RefusedWith, StaysStopped, Begins, RunsOrWaits, RightTick, ZeroGoesOn, TwoZeros, ThreeZeros, WhileRunning, Demand3, RowsDoNotMatter}

-- the phases by their numbers
pub stopped_number : (phase : Phase) → ((phase_words phase).phase ≡ 4) ↔ (is_stopped phase ≡ true)
stopped_number (At Running) = (λ e. absurd (omega arith), λ e. absurd (false≢true e))
stopped_number (At SaveCtx) = (λ e. absurd (omega arith), λ e. absurd (false≢true e))
stopped_number (At ProgramRegions) = (λ e. absurd (omega arith), λ e. absurd (false≢true e))
stopped_number (At Resume) = (λ e. absurd (omega arith), λ e. absurd (false≢true e))
stopped_number (Stopped stage (WrongTick t)) = (λ e. refl, λ e. refl)
stopped_number (Stopped stage (TickInSwitch t)) = (λ e. refl, λ e. refl)
stopped_number (Stopped stage (BadStatus word)) = (λ e. refl, λ e. refl)

pub running_number : (phase : Phase) → ((phase_words phase).phase ≡ 0) ↔ (runs phase ≡ true)
running_number (At Running) = (λ e. refl, λ e. refl)
running_number (At SaveCtx) = (λ e. absurd (omega arith), λ e. absurd (false≢true e))
running_number (At ProgramRegions) = (λ e. absurd (omega arith), λ e. absurd (false≢true e))
running_number (At Resume) = (λ e. absurd (omega arith), λ e. absurd (false≢true e))
running_number (Stopped stage (WrongTick t)) = (λ e. absurd (omega arith), λ e. absurd (false≢true e))
running_number (Stopped stage (TickInSwitch t)) = (λ e. absurd (omega arith), λ e. absurd (false≢true e))
running_number (Stopped stage (BadStatus word)) = (λ e. absurd (omega arith), λ e. absurd (false≢true e))

abbrev Stops : History → Type 0
Stops h = is_stopped h.state.phase ≡ true

-- the cause that a stop keeps, and its number
abbrev cause_of : (in-a-switch : Bool) → Event → Cause
cause_of false (tick t) = WrongTick t
cause_of true (tick t) = TickInSwitch t
cause_of in-a-switch (status word) = BadStatus word

kept_words : (stage : Stage) (e : Event)
    → phase_words (Stopped stage (cause_of (call_open stage) e)) ≡ phase_of 4 (stage_number stage) (cause_number (stage_number stage) e) (word_of e)
kept_words Running (tick t) = refl
kept_words Running (status word) = refl
kept_words SaveCtx (tick t) = refl
kept_words SaveCtx (status word) = refl
kept_words ProgramRegions (tick t) = refl
kept_words ProgramRegions (status word) = refl
kept_words Resume (tick t) = refl
kept_words Resume (status word) = refl

-- the call of a phase
abbrev awaited : Plan → History → Stage → CallWords
awaited p h Running = no_call
awaited p h SaveCtx = save_for (owner p.windows h.state.current).0
awaited p h ProgramRegions = swap_for (owner p.windows h.state.target).0
awaited p h Resume = resume_for (owner p.windows h.state.target).0

apart : {c d : CallWords} → c ≡ d → c.number ≡ d.number
apart e = ap (λ (c : CallWords). c.number) e

same_partition : {c d : CallWords} → c ≡ d → c.partition ≡ d.partition
same_partition e = ap (λ (c : CallWords). c.partition) e

module _ (p : Plan) (a : plan.AcceptedIf p) where
  data Outcome (h : History) (e : Event) : Type 0 where
    at_fault : (stage : Stage) → h.state.phase ≡ At stage → Fault p h e
        → (next (machine_of p) h e).state ≡ stopped h.state stage (cause_of (call_open stage) e) → (next (machine_of p) h e).taken ≡ h.taken
        → (next (machine_of p) h e).entries ≡ entered e h.entries → Outcome h e
    fine : (Stops h → ⊥) → (Fault p h e → ⊥) → (Stops (next (machine_of p) h e) → ⊥) → Outcome h e
    late : Stops h → next (machine_of p) h e ≡ h → Outcome h e

  module _ (h : History) (i : Inv p h) where
    talks : (phase : Phase) → h.state.phase ≡ phase → TalkOf p h.state h.entries phase
    talks phase e = subst (TalkOf p h.state h.entries) e i.talk

    is_going : {stage : Stage} → h.state.phase ≡ At stage → Stops h → ⊥
    is_going e stop = true≢false (sym stop ∙ ap is_stopped e)

    -- the call that is open, by the phase
    open_call_lem : (stage : Stage) → h.state.phase ≡ At stage → open_call h.entries ≡ awaited p h stage
    open_call_lem Running e = ap open_call (talks (At Running) e).1
    open_call_lem SaveCtx e = ap open_call (talks (At SaveCtx) e).1
    open_call_lem ProgramRegions e = ap open_call (talks (At ProgramRegions) e).1
    open_call_lem Resume e = ap open_call (talks (At Resume) e).1

    pub not_open : h.state.phase ≡ At Running → Open h → ⊥
    not_open e waits = waits (open_call_lem Running e)

    pub is_open : (stage : Stage) → h.state.phase ≡ At stage → call_open stage ≡ true → Open h
    is_open Running e waits none = false≢true waits
    is_open SaveCtx e waits none = omega (arith, apart (sym (open_call_lem SaveCtx e) ∙ none))
    is_open ProgramRegions e waits none = omega (arith, apart (sym (open_call_lem ProgramRegions e) ∙ none))
    is_open Resume e waits none = omega (arith, apart (sym (open_call_lem Resume e) ∙ none))

    goes : (e : Event) {to : Answer} → answer_of p h.state e ≡ to → is_stopped to.state.phase ≡ false → Stops (next (machine_of p) h e) → ⊥
    goes e says go stop = false≢true (sym go ∙ sym (ap (λ (x : Answer). is_stopped x.state.phase) says) ∙ stop)

    -- an event that stops the machine
    stops : (e : Event) (stage : Stage) {to : Answer} → h.state.phase ≡ At stage → Fault p h e → answer_of p h.state e ≡ to
        → to.state ≡ stopped h.state stage (cause_of (call_open stage) e) → (go_on h e to).taken ≡ h.taken
        → (go_on h e to).entries ≡ entered e h.entries → Outcome h e
    stops e stage at fault says to kept quiet =
        at_fault stage at fault (ap (λ (x : Answer). x.state) says ∙ to) (ap (λ (x : Answer). (go_on h e x).taken) says ∙ kept)
        (ap (λ (x : Answer). (go_on h e x).entries) says ∙ quiet)

    no_wrong : (t : ℕ) → h.state.phase ≡ At Running → t ≡ h.state.due → Fault p h (tick t) → ⊥
    no_wrong t e due (inl waits) = not_open e waits
    no_wrong t e due (inr wrong) = wrong (due ∙ i.in_time)

    tick_outcome : (t : ℕ) → TickCase (timetable_of p) h.state t → Outcome h (tick t)
    tick_outcome t (window_goes_on e due more to) =
        fine (is_going e) (no_wrong t e due) (goes (tick t) (on_tick p a h.state i.fit e t to) (ap is_stopped e))
    tick_outcome t (window_ends e due last to) = fine (is_going e) (no_wrong t e due) (goes (tick t) (on_tick p a h.state i.fit e t to) refl)
    tick_outcome t (wrong_tick e wrong to) =
        stops (tick t) Running e (inr (λ same. wrong (same ∙ sym i.in_time))) (on_tick p a h.state i.fit e t to) refl refl refl
    tick_outcome t (tick_in_a_switch stage e waits to) =
        stops (tick t) stage e (inl (is_open stage e waits)) (on_tick p a h.state i.fit e t to)
        (ap (λ (b : Bool). stopped h.state stage (cause_of b (tick t))) (sym waits))
        refl refl
    tick_outcome t (tick_too_late stage cause e to) =
        late (ap is_stopped e) (refused_not_counted p h (tick t) MachineStopped (ap (λ (x : Answer). x.verdict) (too_late p a h.state i.fit e (tick t))))

    no_fault : (word : ℕ) → word ≡ 0 → Fault p h (status word) → ⊥
    no_fault word zero (waits, bad) = bad zero

    status_outcome : (word : ℕ) → StatusCase p.windows h.state word → Outcome h (status word)
    status_outcome word (saved e zero to) =
        fine (is_going e) (no_fault word zero) (goes (status word) (on_status p a h.state i.fit e refl word to) refl)
    status_outcome word (programmed e zero to) =
        fine (is_going e) (no_fault word zero) (goes (status word) (on_status p a h.state i.fit e refl word to) refl)
    status_outcome word (runs_again e zero to) =
        fine (is_going e) (no_fault word zero) (goes (status word) (on_status p a h.state i.fit e refl word to) refl)
    status_outcome word (bad_status stage e waits bad to) =
        stops (status word) stage e (is_open stage e waits, bad) (on_status p a h.state i.fit e waits word to) refl refl refl
    status_outcome word (status_unasked_for e to) =
        fine (is_going e) (λ fault. not_open e fault.0) (goes (status word) (unasked p a h.state i.fit e word) (ap is_stopped e))
    status_outcome word (status_too_late stage cause e to) =
        late (ap is_stopped e) (refused_not_counted p h (status word) MachineStopped (ap (λ (x : Answer). x.verdict) (too_late p a h.state i.fit e (status word))))

    what_it_does : (e : Event) → Outcome h e
    what_it_does (tick t) = tick_outcome t (tick_case (timetable_of p) h.state t)
    what_it_does (status word) = status_outcome word (status_case p.windows h.state word)

  -- a stopped machine stays as it is
  no_move : (h : History) (e : Event) → Stops h → Outcome h e → next (machine_of p) h e ≡ h
  no_move h e stop (at_fault stage at fault to kept quiet) = absurd (true≢false (sym stop ∙ ap is_stopped at))
  no_move h e stop (fine going safe go) = absurd (going stop)
  no_move h e stop (late also same) = same

  no_more : (h : History) → Inv p h → Stops h → (more : List Event) → since (machine_of p) h more ≡ h
  no_more h i stop [] = refl
  no_more h i stop (e ∷ more) = ap (λ (to : History). since (machine_of p) to more) (no_move h e stop (what_it_does h i e)) ∙ no_more h i stop more

  nothing_before : (b : List Event) (e : Event) (c : List Event) → [] ≡ b ++ (e ∷ c) → ⊥
  nothing_before [] e c same = cons-ne-nil e c (sym same)
  nothing_before (x ∷ b) e c same = cons-ne-nil x (b ++ (e ∷ c)) (sym same)

  -- one event before, which is no fault
  one_before : (h : History) (e : Event) {events : List Event} → (Fault p h e → ⊥) → FirstFault p (machine_of p) (next (machine_of p) h e) events → FirstFault p (machine_of p) h (e ∷ events)
  one_before h e safe f =
      record {
        before = e ∷ f.before;
        event = f.event;
        after = f.after;
        in_order = ap (λ (l : List Event). e ∷ l) f.in_order;
        is_fault = f.is_fault;
        none_before = earlier;
      }
    where
      earlier : (b : List Event) (x : Event) (c : List Event) → e ∷ f.before ≡ b ++ (x ∷ c) → Fault p (since (machine_of p) h b) x → ⊥
      earlier [] x c same fault = safe (subst (Fault p h) (sym (head-eq_of_cons-eq same)) fault)
      earlier (y ∷ b) x c same fault =
          f.none_before b x c (tail-eq_of_cons-eq same) (subst (λ (z : Event). Fault p (since (machine_of p) (next (machine_of p) h z) b) x) (sym (head-eq_of_cons-eq same)) fault)

  first_fault_lem : (h : History) → Inv p h → (Stops h → ⊥) → (events : List Event) → Stops (since (machine_of p) h events) → FirstFault p (machine_of p) h events
  first_fault_lem h i going [] stop = absurd (going stop)
  first_fault_lem h i going (e ∷ events) stop =
      of (what_it_does h i e) (λ go. first_fault_lem (next (machine_of p) h e) (next_inv p a h i e) go events stop)
    where
      of : Outcome h e → ((Stops (next (machine_of p) h e) → ⊥) → FirstFault p (machine_of p) (next (machine_of p) h e) events) → FirstFault p (machine_of p) h (e ∷ events)
      of (late stop to) rest = absurd (going stop)
      of (at_fault stage at fault to kept quiet) rest =
          record { before = []; event = e; after = events; in_order = refl; is_fault = fault; none_before = λ b x c same fault. nothing_before b x c same }
      of (fine going safe go) rest = one_before h e safe (rest go)

  -- the machine is stopped by it, and keeps it
  kept_first : (h : History) → Inv p h → (Stops h → ⊥) → (before : List Event) (event : Event) (after : List Event)
      → Fault p (since (machine_of p) h before) event
      → ((b : List Event) (e : Event) (c : List Event) → before ≡ b ++ (e ∷ c) → Fault p (since (machine_of p) h b) e → ⊥)
      → Kept (since (machine_of p) h before) event (since (machine_of p) h (before ++ (event ∷ after)))
  kept_first h i going [] event after fault none = of (what_it_does h i event)
    where
      of : Outcome h event → Kept h event (since (machine_of p) (next (machine_of p) h event) after)
      of (late stop to) = absurd (going stop)
      of (fine going safe go) = absurd (safe fault)
      of (at_fault stage at fault to kept quiet) =
          let same = no_more (next (machine_of p) h event) (next_inv p a h i event) (ap (λ (s : State). is_stopped s.phase) to) after in
          let there = ap (λ (x : History). x.state) same ∙ to in
          let phase = ap (λ (s : State). s.phase) there in
          record {
            stage = stage_number stage;
            came_in = ap phase_words at;
            phase = ap phase_words phase ∙ kept_words stage event;
            nothing_else = there ∙ ap (in_phase h.state) (sym phase);
            not_taken = ap (λ (x : History). x.taken) same ∙ kept;
            no_call_lem = ap (λ (x : History). x.entries) same ∙ quiet;
          }
  kept_first h i going (y ∷ before) event after fault none =
      of (what_it_does h i y) (λ go. kept_first (next (machine_of p) h y) (next_inv p a h i y) go before event after fault (λ b e c same. none (y ∷ b) e c (ap (λ (l : List Event). y ∷ l) same)))
    where
      of : Outcome h y
          → ((Stops (next (machine_of p) h y) → ⊥) → Kept (since (machine_of p) (next (machine_of p) h y) before) event (since (machine_of p) (next (machine_of p) h y) (before ++ (event ∷ after))))
          → Kept (since (machine_of p) (next (machine_of p) h y) before) event (since (machine_of p) (next (machine_of p) h y) (before ++ (event ∷ after)))
      of (late stop to) rest = absurd (going stop)
      of (at_fault stage at fault to kept quiet) rest = absurd (none [] y before refl fault)
      of (fine going safe go) rest = rest go

  start_going : Stops (begin (cold_of p)) → ⊥
  start_going stop = is_going (begin (cold_of p)) (start_inv p a) (start_phase p a) stop

  pub stops_exactly : (events : List Event) → StopsExactly p (machine_of p) events
  stops_exactly events =
      record {
        at_nothing_else = λ stop. first_fault_lem (begin (cold_of p)) (start_inv p a) start_going events ((stopped_number (history (machine_of p) events).state.phase).0 stop);
        at_the_first = λ f.
            subst (λ (all : List Event). Kept (history (machine_of p) f.before) f.event (history (machine_of p) all)) (sym f.in_order)
            (kept_first (begin (cold_of p)) (start_inv p a) start_going f.before f.event f.after f.is_fault f.none_before);
      }

  -- a stopped phase is one of a stage and a cause
  stopped_answers : (s : State) → Fits p s → (phase : Phase) → s.phase ≡ phase → is_stopped phase ≡ true → (e : Event)
      → RefusedWith 14 0 s (answer_of p s e)
  stopped_answers s f (At stage) at stop e = absurd (false≢true stop)
  stopped_answers s f (Stopped stage cause) at stop e =
      let says = too_late p a s f at e in
      record {
        verdict = ap (λ (x : Answer). outcome x.verdict) says;
        state = ap (λ (x : Answer). x.state) says;
        no_call_lem = ap (λ (x : Answer). call_words x.call) says;
      }

  pub stays_stopped : (events : List Event) → HasStopped (history (machine_of p) events) → StaysStopped (machine_of p) events
  stays_stopped events number =
      let h = history (machine_of p) events in
      let stop = (stopped_number h.state.phase).0 number in
      record {
        asks_for_nothing = stopped_answers h.state (history_inv p a events).fit h.state.phase refl stop;
        stays = λ more. since_on (machine_of p) (begin (cold_of p)) events more ∙ no_more h (history_inv p a events) stop more;
      }

  -- a zero, by the phase
  module _ (h : History) (i : Inv p h) where
    -- no other call is open
    other : {c d : CallWords} → open_call h.entries ≡ c → open_call h.entries ≡ d → c.number ≡ d.number
    other is also = apart (sym is ∙ also)

    says : {to : Answer} → answer_of p h.state (status 0) ≡ to → next (machine_of p) h (status 0) ≡ go_on h (status 0) to
    says e = ap (go_on h (status 0)) e

    zero_at_lem : (stage : Stage) → h.state.phase ≡ At stage → ZeroGoesOn p (machine_of p) h
    zero_at_lem Running e =
        let is = open_call_lem h i Running e in
        record {
          for_save = λ q also. absurd (omega (arith, other is also));
          for_swap = λ q also. absurd (omega (arith, other is also));
          for_resume = λ q also. absurd (omega (arith, other is also));
        }
    zero_at_lem SaveCtx e =
        let is = open_call_lem h i SaveCtx e in
        let to = says (zero_swaps p a h.state i.fit e) in
        let onward = (subst (FitsPhase p h.state) e i.fit).place.to_next in
        record {
          for_save = λ q also.
              ap (λ (x : History). x.entries) to ∙ ap (λ (w : ℕ). called (swap_for (owner_of p w)) ∷ answered 0 ∷ h.entries) onward;
          for_swap = λ q also. absurd (omega (arith, other is also));
          for_resume = λ q also. absurd (omega (arith, other is also));
        }
    zero_at_lem ProgramRegions e =
        let is = open_call_lem h i ProgramRegions e in
        let to = says (zero_resumes p a h.state i.fit e) in
        record {
          for_save = λ q also. absurd (omega (arith, other is also));
          for_swap = λ q also.
              ap (λ (x : History). x.entries) to
              ∙ ap (λ (r : ℕ). called (resume_for r) ∷ answered 0 ∷ h.entries) (same_partition (sym is ∙ also));
          for_resume = λ q also. absurd (omega (arith, other is also));
        }
    zero_at_lem Resume e =
        let is = open_call_lem h i Resume e in
        let to = says (zero_runs p a h.state i.fit e) in
        record {
          for_save = λ q also. absurd (omega (arith, other is also));
          for_swap = λ q also. absurd (omega (arith, other is also));
          for_resume = λ q also. (
            ap (λ (x : History). phase_number x) to,
            ap (λ (x : History). owner_of p x.state.current.0) to ∙ same_partition (sym is ∙ also),
            ap (λ (x : History). x.entries) to,
          );
        }

    zero_in : (phase : Phase) → h.state.phase ≡ phase → (is_stopped phase ≡ true → ⊥) → ZeroGoesOn p (machine_of p) h
    zero_in (At stage) e going = zero_at_lem stage e
    zero_in (Stopped stage cause) e going = absurd (going refl)

    -- what holds while it runs
    runs_in : (phase : Phase) → h.state.phase ≡ phase → runs phase ≡ true → WhileRunning p h
    runs_in (At Running) e run =
        let w = subst (FitsPhase p h.state) e i.fit in
        let (earlier, calls) = talks h i (At Running) e in
        let now = subst (Holds (offset_of p) (budget_of p) h.state.current.0) i.in_time w.place.holds in
        record {
          only_window = record {
            is_window = w.place.is_window;
            holds = now;
            no_other = λ j is_window holds. share_no_tick (follow p a) j _ _ is_window w.place.is_window holds now;
          };
          due = i.in_time;
          swapped = w.marked;
          earlier = earlier;
          calls = calls;
        }
    runs_in (At SaveCtx) e run = absurd (false≢true run)
    runs_in (At ProgramRegions) e run = absurd (false≢true run)
    runs_in (At Resume) e run = absurd (false≢true run)
    runs_in (Stopped stage cause) e run = absurd (false≢true run)

  -- by the phase of a machine that goes on
  going_on : {A : Type 0} (h : History) → (HasStopped h → ⊥) → ((stage : Stage) → h.state.phase ≡ At stage → A) → A
  going_on {A} h going make = of h.state.phase refl
    where
      of : (phase : Phase) → h.state.phase ≡ phase → A
      of (At stage) e = make stage e
      of (Stopped stage cause) e = absurd (going ((stopped_number h.state.phase).1 (ap is_stopped e)))

  pub zero_goes_on : (events : List Event) → (HasStopped (history (machine_of p) events) → ⊥) → ZeroGoesOn p (machine_of p) (history (machine_of p) events)
  zero_goes_on events going =
      let h = history (machine_of p) events in
      going_on h going (zero_at_lem h (history_inv p a events))

  -- where zeros lead, by the phase
  after_zero : Stage → Stage
  after_zero Running = Running
  after_zero SaveCtx = ProgramRegions
  after_zero ProgramRegions = Resume
  after_zero Resume = Running

  zero_phase : (h : History) → Inv p h → (stage : Stage) → h.state.phase ≡ At stage
      → (next (machine_of p) h (status 0)).state.phase ≡ At (after_zero stage)
  unfolding after_zero
  zero_phase h i Running e = ap (λ (x : Answer). x.state.phase) (unasked p a h.state i.fit e 0) ∙ e
  zero_phase h i SaveCtx e = ap (λ (x : Answer). x.state.phase) (zero_swaps p a h.state i.fit e)
  zero_phase h i ProgramRegions e = ap (λ (x : Answer). x.state.phase) (zero_resumes p a h.state i.fit e)
  zero_phase h i Resume e = ap (λ (x : Answer). x.state.phase) (zero_runs p a h.state i.fit e)

  two_phases : (h : History) → Inv p h → (stage : Stage) → h.state.phase ≡ At stage
      → (since (machine_of p) h (status 0 ∷ status 0 ∷ [])).state.phase ≡ At (after_zero (after_zero stage))
  two_phases h i stage e =
      zero_phase (next (machine_of p) h (status 0)) (next_inv p a h i (status 0)) (after_zero stage) (zero_phase h i stage e)

  three_phases : (h : History) → Inv p h → (stage : Stage) → h.state.phase ≡ At stage
      → (since (machine_of p) h (status 0 ∷ status 0 ∷ status 0 ∷ [])).state.phase ≡ At (after_zero (after_zero (after_zero stage)))
  three_phases h i stage e =
      two_phases (next (machine_of p) h (status 0)) (next_inv p a h i (status 0)) (after_zero stage) (zero_phase h i stage e)

  three_run : (stage : Stage) → runs (At (after_zero (after_zero (after_zero stage)))) ≡ true
  unfolding after_zero
  three_run Running = refl
  three_run SaveCtx = refl
  three_run ProgramRegions = refl
  three_run Resume = refl

  pub two_zeros : TwoZeros (machine_of p)
  unfolding after_zero
  two_zeros =
      (running_number (history (machine_of p) (status 0 ∷ status 0 ∷ [])).state.phase).1
      (ap runs (two_phases (begin (cold_of p)) (start_inv p a) ProgramRegions (start_phase p a)))

  pub three_zeros : (events : List Event) → (HasStopped (history (machine_of p) events) → ⊥) → ThreeZeros (machine_of p) events
  three_zeros events going =
      let h = history (machine_of p) events in
      going_on h going (λ stage e.
      (running_number (history (machine_of p) (events ++ (status 0 ∷ status 0 ∷ status 0 ∷ []))).state.phase).1
      (ap (λ (x : History). runs x.state.phase) (since_on (machine_of p) (begin (cold_of p)) events (status 0 ∷ status 0 ∷ status 0 ∷ []))
      ∙ ap runs (three_phases h (history_inv p a events) stage e)
      ∙ three_run stage))

  pub runs_or_waits : (events : List Event) → (HasStopped (history (machine_of p) events) → ⊥) → RunsOrWaits (history (machine_of p) events)
  runs_or_waits events going = going_on h going of
    where
      h : History
      h = history (machine_of p) events

      of : (stage : Stage) → h.state.phase ≡ At stage → RunsOrWaits h
      of Running e = inl ((running_number h.state.phase).1 (ap runs e))
      of SaveCtx e = inr (is_open h (history_inv p a events) SaveCtx e refl)
      of ProgramRegions e = inr (is_open h (history_inv p a events) ProgramRegions e refl)
      of Resume e = inr (is_open h (history_inv p a events) Resume e refl)

  -- the right tick, by the cases of a tick
  right_in : (h : History) → Inv p h → (phase : Phase) → h.state.phase ≡ phase → runs phase ≡ true
      → TickCase (timetable_of p) h.state (right p h) → RightTick p (machine_of p) h
  right_in h i phase at run (window_goes_on e due more to) =
      let says = on_tick p a h.state i.fit e (right p h) to in
      record {
        taken = ap (λ (x : Answer). (go_on h (tick (right p h)) x).taken) says
            ∙ ap (λ (phase : Phase). cond (is_stopped phase) h.taken (h.taken + 1)) e;
        last = λ ends. absurd (more ends);
        not_last = λ goes. (
          ap (λ (x : Answer). (phase_words x.state.phase).phase) says ∙ ap (λ (x : Phase). (phase_words x).phase) e,
          ap (λ (x : Answer). (go_on h (tick (right p h)) x).entries) says,
        );
      }
  right_in h i phase at run (window_ends e due last to) =
      let says = on_tick p a h.state i.fit e (right p h) to in
      record {
        taken = ap (λ (x : Answer). (go_on h (tick (right p h)) x).taken) says;
        last = λ ends. ap (λ (x : Answer). (go_on h (tick (right p h)) x).entries) says;
        not_last = λ goes. absurd (goes last);
      }
  right_in h i phase at run (wrong_tick e wrong to) = absurd (wrong (sym i.in_time))
  right_in h i phase at run (tick_in_a_switch stage e waits to) =
      absurd (true≢false (sym run ∙ ap runs (sym at ∙ e) ∙ ap not waits))
  right_in h i phase at run (tick_too_late stage cause e to) = absurd (true≢false (sym run ∙ ap runs (sym at ∙ e)))

  pub right_tick : (events : List Event) → Runs (history (machine_of p) events) → RightTick p (machine_of p) (history (machine_of p) events)
  right_tick events run =
      let h = history (machine_of p) events in
      right_in h (history_inv p a events) h.state.phase refl ((running_number h.state.phase).0 run)
      (tick_case (timetable_of p) h.state (right p h))

  pub while_running : (events : List Event) → Runs (history (machine_of p) events) → WhileRunning p (history (machine_of p) events)
  while_running events run =
      let h = history (machine_of p) events in
      runs_in h (history_inv p a events) h.state.phase refl ((running_number h.state.phase).0 run)

  pub begins : Begins p (machine_of p)
  unfolding cold_move
  begins =
      let state = ap (λ (x : History). x.state) (start_is p a) in
      record {
        verdict = ap (λ (x : Answer). outcome x.verdict) (cold_accepted p (all_accepted p a));
        phase = ap (λ (s : State). phase_words s.phase) state;
        current = ap (λ (s : State). s.current.0) state;
        target = ap (λ (s : State). s.target.0) state;
        due = ap (λ (s : State). s.due) state;
        mark = ap (λ (s : State). s.swapped) state;
        none_taken = ap (λ (x : History). x.taken) (start_is p a);
        asks = ap (λ (x : History). x.entries) (start_is p a);
      }

-- the check's verdict, and what it says of the plan
pub accepts : (p : Plan) → CheckAccepts p → plan.AcceptedIf p
accepts p ok = accepted_all p (same_outcome (verdict_of p) accepted ok)

pub demand_3 : Demand3
demand_3 p u32 ok =
    let a = accepts p ok in
    record {
      begins = begins p a;
      stops = stops_exactly p a;
      stays_stopped = stays_stopped p a;
      runs_or_waits = runs_or_waits p a;
      right_tick = right_tick p a;
      zero_goes_on = zero_goes_on p a;
      two_zeros = two_zeros p a;
      three_zeros = three_zeros p a;
      while_running = while_running p a;
      addresses = separation p u32 a;
    }

pub rows_do_not_matter : RowsDoNotMatter
rows_do_not_matter q p p' ok ok' same events = same_history p p' (accepts p ok) (accepts p' ok') same events
