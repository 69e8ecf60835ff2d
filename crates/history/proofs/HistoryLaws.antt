-- What holds after a cold start and any events: the state is one that fits, its due tick is N modulo the frame length, and the last
-- calls are those of its phase.
-- Assumes nothing.
use mathlib.Core.List.{List, [], ◌∷◌, ◌++◌}
use mathlib.Core.Path.{◌≡◌, refl, sym, ap, ◌∙◌, subst}
use Prim.Native.Nat.{ℕ, ◌+◌, ◌%◌}
use native.Mathlib.Nat.{mod-eq_of_lt}
use Rattle.refusal.specs.declared.Refusal.{Refusal}
use Rattle.refusal.specs.Verdict.{accepted}
use Rattle.std.specs.Prelude.{Err}
use Rattle.timeline.specs.Windows.{next_tick}
use Rattle.timeline.proofs.Laws.{next_tick_lem, some_ticks}
use Rattle.plan.specs.Plan.{Plan, frame_length}
use Rattle.accepted.specs.Accepted as plan
use Rattle.accepted.proofs.AcceptedLaws.{all_accepted}
use Rattle.accepted.proofs.FollowLaws.{follow}
use Rattle.protocol.specs.Numbers.{save_for, swap_for, resume_for}
use Rattle.protocol.specs.declared.Stage.TheVariants.{Running, SaveCtx, ProgramRegions, Resume}
use Rattle.protocol.specs.declared.Phase.{Phase}
use Rattle.protocol.specs.declared.Phase.TheVariants.{At, Stopped}
use Rattle.state.specs.declared.State.{State}
use Rattle.state.specs.declared.Answer.{Answer}
use Rattle.protocol.specs.Phase.{is_stopped}
use Rattle.state.specs.State.{cold}
use Rattle.state.specs.Answer.{owner}
use Rattle.state.specs.Start.{cold_move, cold_of}
use Rattle.machine.specs.Step.{timetable_of, tick_move, status_move}
use Rattle.machine.specs.Machine.{tick_of, status_of}
use Rattle.history.specs.Reached.{Event, tick, status, move_of, leads}
use Rattle.history.specs.History.{Machine, answer_of, machine_of, Entry, called, answered, History, counted, begin, go_on, next, since, history}
use Rattle.state.proofs.StartLaws.{cold_accepted}
use Rattle.history.specs.Cases.{TickCase, window_goes_on, window_ends, wrong_tick, tick_in_a_switch, tick_too_late, StatusCase, saved, programmed, runs_again, bad_status, status_unasked_for, status_too_late, onward}
use Rattle.history.proofs.Cases.{tick_case, status_case}
use Rattle.machine.proofs.FitsLaws.{Fits}
use Rattle.history.proofs.Preserved.{move_fits, cold_fits}
use Rattle.history.proofs.Answers.{too_late, on_tick, on_status, unasked, refused_not_counted}

-- two answers with one state
goes_there : {x y to also : Answer} → x ≡ to → y ≡ also → to.state ≡ also.state → x.state ≡ y.state
goes_there e f same = ap (λ (x : Answer). x.state) e ∙ same ∙ sym (ap (λ (x : Answer). x.state) f)

-- events, and more of them
pub since_on : (m : Machine) (h : History) (events more : List Event) → since m h (events ++ more) ≡ since m (since m h events) more
since_on m h [] more = refl
since_on m h (e ∷ events) more = since_on m (next m h e) events more

-- the last calls and answers, by the phase: what has been asked, and what has been answered zero
abbrev pub Talk : (outgoing incoming : ℕ) → List Entry → Phase → Type 0
Talk outgoing incoming entries (At Running) =
    (earlier : List Entry) × (entries ≡ answered 0 ∷ called (resume_for outgoing) ∷ answered 0 ∷ called (swap_for outgoing) ∷ earlier)
Talk outgoing incoming entries (At SaveCtx) = (earlier : List Entry) × (entries ≡ called (save_for outgoing) ∷ earlier)
Talk outgoing incoming entries (At ProgramRegions) = (earlier : List Entry) × (entries ≡ called (swap_for incoming) ∷ earlier)
Talk outgoing incoming entries (At Resume) =
    (earlier : List Entry) × (entries ≡ called (resume_for incoming) ∷ answered 0 ∷ called (swap_for incoming) ∷ earlier)
Talk outgoing incoming entries (Stopped stage cause) = Unit {0}

abbrev pub TalkOf : Plan → State → List Entry → Phase → Type 0
TalkOf p s entries phase = Talk (owner p.windows s.current).0 (owner p.windows s.target).0 entries phase

pub record Inv (p : Plan) (h : History) : Type 0 where
  pub fit : Fits p h.state
  pub in_time : h.state.due ≡ h.taken % frame_length p
  pub talk : TalkOf p h.state h.entries h.state.phase

module _ (p : Plan) (a : plan.AcceptedIf p) where
  -- what is due after one tick more
  next_due : (t N : ℕ) → t ≡ N % frame_length p → next_tick (frame_length p) t ≡ (N + 1) % frame_length p
  next_due t N e = ap (next_tick (frame_length p)) e ∙ next_tick_lem N (frame_length p) (some_ticks (follow p a))

  module _ (h : History) (i : Inv p h) where
    -- a step is accepted, and what it says of the history
    accepts : (e : Event) {to : Answer} → answer_of p h.state e ≡ to → move_of p h.state e ≡ to
        → (go_on h e (to)).state.due ≡ (go_on h e (to)).taken % frame_length p
        → TalkOf p to.state (go_on h e (to)).entries to.state.phase → Inv p (next (machine_of p) h e)
    accepts e {to} says leads-to due talk =
        subst (λ (to : Answer). Inv p (go_on h e to)) (sym says)
        (record {
          fit = subst (λ (m : Answer). Fits p m.state) leads-to (move_fits p a h.state i.fit e);
          in_time = due;
          talk = talk;
        })

    refuses : (e : Event) {r : Refusal} → (answer_of p h.state e).verdict ≡ Err r → Inv p (next (machine_of p) h e)
    refuses e {r} says = subst (Inv p) (sym (refused_not_counted p h e r says)) i

    tick_inv : (t : ℕ) → TickCase (timetable_of p) h.state t → Inv p (next (machine_of p) h (tick t))
    tick_inv t (window_goes_on e due more to) =
        accepts (tick t) (on_tick p a h.state i.fit e t to) to
        (next_due t h.taken (due ∙ i.in_time)
        ∙ ap (λ (phase : Phase). counted (tick t) accepted (is_stopped phase) h.taken % frame_length p) (sym e))
        (subst (TalkOf p (onward (timetable_of p) h.state t) h.entries) (sym e) (subst (TalkOf p h.state h.entries) e i.talk))
    tick_inv t (window_ends e due last to) =
        accepts (tick t) (on_tick p a h.state i.fit e t to) to (next_due t h.taken (due ∙ i.in_time)) (h.entries, refl)
    tick_inv t (wrong_tick e wrong to) = accepts (tick t) (on_tick p a h.state i.fit e t to) to i.in_time tt
    tick_inv t (tick_in_a_switch stage e waits to) = accepts (tick t) (on_tick p a h.state i.fit e t to) to i.in_time tt
    tick_inv t (tick_too_late stage cause e to) = refuses (tick t) (ap (λ (x : Answer). x.verdict) (too_late p a h.state i.fit e (tick t)))

    status_inv : (word : ℕ) → StatusCase p.windows h.state word → Inv p (next (machine_of p) h (status word))
    status_inv word (saved e zero to) =
        accepts (status word) (on_status p a h.state i.fit e refl word to) to i.in_time (_, refl)
    status_inv word (programmed e zero to) =
        let (earlier, so_far) = subst (TalkOf p h.state h.entries) e i.talk in
        accepts (status word) (on_status p a h.state i.fit e refl word to) to i.in_time
        (earlier, λ k. called (resume_for (owner p.windows h.state.target).0) ∷ answered (zero k) ∷ so_far k)
    status_inv word (runs_again e zero to) =
        let (earlier, so_far) = subst (TalkOf p h.state h.entries) e i.talk in
        accepts (status word) (on_status p a h.state i.fit e refl word to) to i.in_time
        (earlier, λ k. answered (zero k) ∷ so_far k)
    status_inv word (bad_status stage e waits bad to) =
        accepts (status word) (on_status p a h.state i.fit e waits word to) to i.in_time tt
    status_inv word (status_unasked_for e to) = refuses (status word) (ap (λ (x : Answer). x.verdict) (unasked p a h.state i.fit e word))
    status_inv word (status_too_late stage cause e to) = refuses (status word) (ap (λ (x : Answer). x.verdict) (too_late p a h.state i.fit e (status word)))

    pub next_inv : (e : Event) → Inv p (next (machine_of p) h e)
    next_inv (tick t) = tick_inv t (tick_case (timetable_of p) h.state t)
    next_inv (status word) = status_inv word (status_case p.windows h.state word)

  pub start_phase : (begin (cold_of p)).state.phase ≡ At ProgramRegions
  unfolding cold_move
  start_phase = ap (λ (to : Answer). to.state.phase) (cold_accepted p (all_accepted p a))

  pub start_inv : Inv p (begin (cold_of p))
  unfolding cold_move
  start_inv = subst (λ (to : Answer). Inv p (begin to)) (sym (cold_accepted p (all_accepted p a))) (record { fit = cold_fits p a; in_time = sym (mod-eq_of_lt (some_ticks (follow p a))); talk = ([], refl) })

  pub since_inv : (h : History) → Inv p h → (events : List Event) → Inv p (since (machine_of p) h events)
  since_inv h i [] = i
  since_inv h i (e ∷ events) = since_inv (next (machine_of p) h e) (next_inv h i e) events

  pub history_inv : (events : List Event) → Inv p (history (machine_of p) events)
  history_inv events = since_inv (begin (cold_of p)) start_inv events

  -- the entry points lead where the step leads
  module _ (h : History) (i : Inv p h) where
    tick_leads : (t : ℕ) → TickCase (timetable_of p) h.state t → (tick_of p h.state t).state ≡ (tick_move (timetable_of p) h.state t).state
    tick_leads t (window_goes_on e due more to) = goes_there (on_tick p a h.state i.fit e t to) to refl
    tick_leads t (window_ends e due last to) = goes_there (on_tick p a h.state i.fit e t to) to refl
    tick_leads t (wrong_tick e wrong to) = goes_there (on_tick p a h.state i.fit e t to) to refl
    tick_leads t (tick_in_a_switch stage e waits to) = goes_there (on_tick p a h.state i.fit e t to) to refl
    tick_leads t (tick_too_late stage cause e to) = goes_there (too_late p a h.state i.fit e (tick t)) to refl

    status_leads : (word : ℕ) → StatusCase p.windows h.state word
        → (status_of p h.state word).state ≡ (status_move p.windows h.state word).state
    status_leads word (saved e zero to) = goes_there (on_status p a h.state i.fit e refl word to) to refl
    status_leads word (programmed e zero to) = goes_there (on_status p a h.state i.fit e refl word to) to refl
    status_leads word (runs_again e zero to) = goes_there (on_status p a h.state i.fit e refl word to) to refl
    status_leads word (bad_status stage e waits bad to) = goes_there (on_status p a h.state i.fit e waits word to) to refl
    status_leads word (status_unasked_for e to) = goes_there (unasked p a h.state i.fit e word) to refl
    status_leads word (status_too_late stage cause e to) = goes_there (too_late p a h.state i.fit e (status word)) to refl

    next_leads : (e : Event) → (next (machine_of p) h e).state ≡ (move_of p h.state e).state
    next_leads (tick t) = tick_leads t (tick_case (timetable_of p) h.state t)
    next_leads (status word) = status_leads word (status_case p.windows h.state word)

  since_leads : (h : History) → Inv p h → (events : List Event) → (since (machine_of p) h events).state ≡ leads p h.state events
  unfolding leads
  since_leads h i [] = refl
  since_leads h i (e ∷ events) =
      since_leads (next (machine_of p) h e) (next_inv h i e) events ∙ ap (λ (s : State). leads p s events) (next_leads h i e)

  pub history_leads : (events : List Event) → (history (machine_of p) events).state ≡ leads p (cold_move p.windows).state events
  history_leads events =
      since_leads (begin (cold_of p)) start_inv events
      ∙ ap (λ (to : Answer). leads p to.state events) (cold_accepted p (all_accepted p a))

  pub start_is : begin (cold_of p) ≡ record { state = cold; taken = 0; entries = called (swap_for (owner p.windows cold.target).0) ∷ [] }
  unfolding cold_move
  start_is = ap begin (cold_accepted p (all_accepted p a))
