-- The tests of the guard, of the lookup and of the words in document 01's numbers: the test of a state is `Reached` (crate `history`,
-- proofs/Exact.antt), and an outcome tells its verdict (crate `verdict`, proofs/Outcome.antt).
-- Assumes nothing.
use mathlib.Core.Bool.{Bool, true, false, false≢true}
use mathlib.Core.Path.{◌≡◌, refl, sym, ap, ◌∙◌}
use mathlib.Mathlib.Data.Bool.Basic.{eq-false_of_not-eq-true}
use Prim.Native.Nat.{ℕ, ◌<◌, ◌^◌}
use native.Mathlib.Omega.{arith}
use Rattle.refusal.specs.declared.Refusal.{Refusal}
use Rattle.refusal.specs.declared.Refusal.TheVariants.{MachineStopped, StrangeState}
use Rattle.refusal.specs.Verdict.{Verdict, accepted}
use Rattle.std.specs.Prelude.{Ok, Err}
use Rattle.verdict.specs.Outcome.{outcome}
use Rattle.verdict.proofs.Outcome.{same_outcome}
use Rattle.plan.specs.Plan.{Plan, window_count}
use Rattle.plan.specs.Faults.{verdict_of}
use Rattle.accepted.specs.Accepted as plan
use Rattle.accepted.proofs.AcceptedLaws.{all_accepted}
use Rattle.accepted.proofs.WrongLaws.{refused_for}
use Rattle.timeline.specs.declared.Located.{Located}
use Rattle.records.specs.declared.WindowNo.{WindowNo}
use Rattle.lookup.specs.Lookup.{lookup_of}
use Rattle.lookup.proofs.LookupLaws.{lookup_refused, lookup_past, lookup_answers}
use Rattle.words.specs.declared.Words.{Words}
use Rattle.words.proofs.WordsLaws.{words_refused, words_unknown, words_found}
use Rattle.protocol.specs.Phase.{is_stopped, runs}
use Rattle.protocol.specs.Numbers.{call_words}
use Rattle.state.specs.declared.State.{State}
use Rattle.state.specs.declared.Answer.{Answer}
use Rattle.state.specs.Start.{cold_move}
use Rattle.machine.specs.Guard.{fits, guard_of}
use Rattle.history.specs.Reached.{Event, tick, status, Reached}
use Rattle.history.specs.History.{answer_of}
use Rattle.history.proofs.Answers.{step_accepts, refused_changes_nothing, refused_not_counted}
use Rattle.history.proofs.Exact.{let_in_exactly, let_in_by_words}
use Rattle.machine.proofs.GuardLaws.{guard_plan, guard_strange, guard_stopped, guard_accepted}
use Rattle.history.proofs.HistoryLaws.{history_leads}
use Rattle.state.proofs.StartLaws.{cold_refused}
use Rattle.machine.proofs.MachineLaws.{tick_refused, tick_accepted, status_refused, status_unasked, status_accepted}
use Rattle.demands.specs.Machine.{CheckAccepts}
use Rattle.demands.specs.Refusals.{RightVerdict, RightWindow, WordsRefusals, is_status, outcome_of, EventRefusals, StrangeExactly, SameStates, ChangesNothing, Demand1}
use Rattle.demands.proofs.Machine.{accepts, stopped_number, running_number}

-- an outcome that is not (0, 0) is a refusal's
pub told : (v : Verdict) → (outcome v ≡ (0, 0) → ⊥) → (r : Refusal) × (v ≡ Err r)
told (Ok _) refusal = absurd (refusal refl)
told (Err r) refusal = (r, refl)

numbered : (v : Verdict) (number place : ℕ) → 0 < number → outcome v ≡ (number, place) → (r : Refusal) × (v ≡ Err r)
numbered (Ok _) number place some e = absurd (omega (arith, ap (λ (o : ℕ × ℕ). o.0) e))
numbered (Err r) number place some e = (r, refl)

pub check_accepts : (p : Plan) → CheckAccepts p → verdict_of p ≡ accepted
check_accepts p ok = same_outcome (verdict_of p) accepted ok

pub right_verdict : (p : Plan) → RightVerdict p (verdict_of p)
right_verdict p =
    record {
      accepted = (accepts p, λ a. ap outcome (all_accepted p a));
      refused = λ r. (λ e. (refused_for p r).0 (same_outcome (verdict_of p) (Err r) e), λ f. ap outcome ((refused_for p r).1 f));
    }

pub right_window : (p : Plan) (t : ℕ) → RightWindow p t (lookup_of p t)
right_window p t =
    record {
      first_the_plan = λ refusal.
          let (r, e) = told (verdict_of p) refusal in
          let says = lookup_refused p t r e in
          (ap (λ (l : Located WindowNo). outcome l.verdict) says ∙ sym (ap outcome e), ap (λ (l : Located WindowNo). l.window.0) says);
      then_12 = λ ok past.
          let says = lookup_past p t (check_accepts p ok) past in
          (ap (λ (l : Located WindowNo). outcome l.verdict) says, ap (λ (l : Located WindowNo). l.window.0) says);
      else_found = λ ok below. let found = lookup_answers p (accepts p ok) t below in (ap outcome found.0, found.1);
    }

pub words_refusals : (p : Plan) (q : ℕ) → WordsRefusals p q
words_refusals p q =
    record {
      first_the_plan = λ refusal.
          let (r, e) = told (verdict_of p) refusal in
          let says = words_refused p q r e in
          (ap (λ (w : Words). outcome w.verdict) says ∙ sym (ap outcome e), ap (λ (w : Words). w.slots) says);
      then_15 = λ ok unknown.
          let says = words_unknown p q (check_accepts p ok) unknown in
          (ap (λ (w : Words). outcome w.verdict) says, ap (λ (w : Words). w.slots) says);
      else_none = λ ok known. ap (λ (w : Words). outcome w.verdict) (words_found p q (check_accepts p ok) known);
    }

module _ (p : Plan) (s : State) where
  -- what the guard refuses, every event is refused with
  guarded : (e : Event) (r : Refusal) → guard_of p s ≡ Err r → outcome_of p s e ≡ outcome (Err r)
  guarded (tick t) r g = ap (λ (x : Answer). outcome x.verdict) (tick_refused p s t r g)
  guarded (status word) r g = ap (λ (x : Answer). outcome x.verdict) (status_refused p s word r g)

  module _ (a : plan.AcceptedIf p) where
    strange : (Reached p s → ⊥) → guard_of p s ≡ Err StrangeState
    strange unreached = guard_strange p s (all_accepted p a) (eq-false_of_not-eq-true (λ fit. unreached ((let_in_exactly p a s).0 fit)))

    late : Reached p s → is_stopped s.phase ≡ true → guard_of p s ≡ Err MachineStopped
    late reached stop = guard_stopped p s (all_accepted p a) ((let_in_exactly p a s).1 reached) stop

    goes : Reached p s → is_stopped s.phase ≡ false → guard_of p s ≡ accepted
    goes reached go = guard_accepted p s (all_accepted p a) ((let_in_exactly p a s).1 reached) go

    -- and what it lets in is refused for no call, or not at all
    unasked : (e : Event) → Reached p s → is_status e ≡ true → runs s.phase ≡ true → is_stopped s.phase ≡ false → outcome_of p s e ≡ (13, 0)
    unasked (tick t) reached is-status run go = absurd (false≢true is-status)
    unasked (status word) reached is-status run go =
        ap (λ (x : Answer). outcome x.verdict) (status_unasked p s word (goes reached go) run)

    let_in : (e : Event) → Reached p s → is_stopped s.phase ≡ false → (is_status e ≡ true → runs s.phase ≡ true → ⊥) → outcome_of p s e ≡ (0, 0)
    let_in (tick t) reached go asked =
        ap (λ (x : Answer). outcome x.verdict) (tick_accepted p s t (goes reached go)) ∙ ap outcome (step_accepts p s (tick t))
    let_in (status word) reached go asked =
        ap (λ (x : Answer). outcome x.verdict) (status_accepted p s word (goes reached go) (eq-false_of_not-eq-true (asked refl)))
        ∙ ap outcome (step_accepts p s (status word))

    -- a state that is reached is never refused as strange
    not_strange : (e : Event) → Reached p s → outcome_of p s e ≡ (17, 0) → ⊥
    not_strange e reached says = of (is_stopped s.phase) refl (is_status e) refl (runs s.phase) refl
      where
        another : {n : ℕ} → outcome_of p s e ≡ (n, 0) → 17 ≡ n
        another also = ap (λ (o : ℕ × ℕ). o.0) (sym says ∙ also)

        of : (stops : Bool) → is_stopped s.phase ≡ stops → (is-status : Bool) → is_status e ≡ is-status → (run : Bool) → runs s.phase ≡ run → ⊥
        of true stop b is-status c run = omega (arith, another (guarded e MachineStopped (late reached stop)))
        of false go true is-status true run = omega (arith, another (unasked e reached is-status run go))
        of false go true is-status false waits = omega (arith, another (let_in e reached go (λ x run. false≢true (sym waits ∙ run))))
        of false go false is-tick c run = omega (arith, another (let_in e reached go (λ x run. false≢true (sym is-tick ∙ x))))

  running_goes : runs s.phase ≡ true → is_stopped s.phase ≡ false
  running_goes run =
      eq-false_of_not-eq-true (λ stop. absurd (omega (arith, (running_number s.phase).1 run, (stopped_number s.phase).1 stop)))

  pub event_refusals : (e : Event) → EventRefusals p s e
  event_refusals e =
      record {
        first_the_plan = λ refusal. let (r, says) = told (verdict_of p) refusal in guarded e r (guard_plan p s r says) ∙ sym (ap outcome says);
        then_17 = λ ok unreached. guarded e StrangeState (strange (accepts p ok) unreached);
        then_14 = λ ok reached stop. guarded e MachineStopped (late (accepts p ok) reached ((stopped_number s.phase).0 stop));
        then_13 = λ ok reached is-status run.
            let goes = (running_number s.phase).0 run in
            unasked (accepts p ok) e reached is-status goes (running_goes goes);
        else_none = λ ok reached go asked.
            let_in (accepts p ok) e reached (eq-false_of_not-eq-true (λ stop. go ((stopped_number s.phase).1 stop)))
            (λ is-status run. asked is-status ((running_number s.phase).1 run));
      }

  -- a state that is not refused as strange passes the test
  fits_if : (a : plan.AcceptedIf p) (e : Event) → (outcome_of p s e ≡ (17, 0) → ⊥) → fits (window_count p) p.windows s ≡ true
  fits_if a e let_in = of (fits (window_count p) p.windows s) refl
    where
      of : (b : Bool) → fits (window_count p) p.windows s ≡ b → b ≡ true
      of true fit = refl
      of false strange = absurd (let_in (guarded e StrangeState (guard_strange p s (all_accepted p a) strange)))

  pub strange_exactly : plan.AcceptedIf p → (e : Event) → StrangeExactly p s e
  strange_exactly a e =
      record {
        refused = (λ says reached. not_strange a e reached says, λ unreached. guarded e StrangeState (strange a unreached));
        let_in = (λ let_in. (let_in_exactly p a s).0 (fits_if a e let_in), λ reached says. not_strange a e reached says);
        by_words = λ long small.
            let exactly = let_in_by_words p a s (2 ^ 32) (omega arith) small in (
              λ let_in. exactly.0 (fits_if a e let_in),
              λ reached says. not_strange a e ((let_in_exactly p a s).0 (exactly.1 reached)) says,
            );
      }

pub same_states : (p : Plan) → plan.AcceptedIf p → SameStates p
unfolding cold_move
same_states p a events = history_leads p a events

pub changes_nothing : (p : Plan) → ChangesNothing p
changes_nothing p =
    record {
      back = λ s e number place some says.
          let (r, verdict) = numbered (answer_of p s e).verdict number place some says in
          let same = refused_changes_nothing p s e r verdict in
          record { verdict = says; state = ap (λ (x : Answer). x.state) same; no_call_lem = ap (λ (x : Answer). call_words x.call) same };
      not_counted = λ h e number place some says.
          let (r, verdict) = numbered (answer_of p h.state e).verdict number place some says in
          refused_not_counted p h e r verdict;
      no_start = λ number place some says.
          let (r, verdict) = numbered (verdict_of p) number place some says in
          let same = cold_refused p r verdict in
          record {
            verdict = ap (λ (x : Answer). outcome x.verdict) same ∙ sym (ap outcome verdict) ∙ says;
            state = ap (λ (x : Answer). x.state) same;
            no_call_lem = ap (λ (x : Answer). call_words x.call) same;
          };
    }

pub demand_1 : Demand1
demand_1 p =
    record {
      check = right_verdict p;
      lookup = right_window p;
      words = words_refusals p;
      events = event_refusals p;
      strange_exactly = λ ok s e. strange_exactly p s (accepts p ok) e;
      same_states = λ ok. same_states p (accepts p ok);
      changes_nothing = changes_nothing p;
    }
