-- Number and place tell the verdict, so that each refusal is looked up in the definition that made it: the frame's is the first fault
-- of its windows, then its length; the state's is the frame's, then 17; the switch's is the state's, then 13.
-- Assumes nothing.
use mathlib.Core.Bool.{Bool}
use mathlib.Mathlib.Data.Bool.Basic.{eq-false_of_not-eq-true}
use mathlib.Core.Logic.{◌⊎◌, inl, inr, ⊎_elim}
use mathlib.Core.Path.{◌≡◌, refl, sym, ap, ◌∙◌}
use Prim.Native.Nat.{ℕ, ◌≤◌, ◌<◌}
use native.Mathlib.Decide.{dec_lt}
use native.Mathlib.Omega.{arith}
use Rattle.refusal.specs.declared.Refusal.{Refusal}
use Rattle.refusal.specs.declared.Refusal.TheVariants.{ZeroBudget, WrongStart, WrongLength, NoCallOpen, StrangeState}
use Rattle.refusal.specs.Verdict.{Verdict}
use Rattle.std.specs.Prelude.{Ok, Err}
use Rattle.refusal.specs.Table.{number_of}
use Rattle.verdict.specs.Outcome.{outcome}
use Rattle.verdict.proofs.First.{never_both}
use Rattle.verdict.proofs.Outcome.{same_outcome}
use Rattle.major_frame.specs.declared.MajorFrame.{MajorFrame}
use Rattle.major_frame.specs.Frame.{FrameInv, window_test, frame_verdict, current_window}
use Rattle.major_frame.proofs.FrameLaws.{test_accepted, budget_refused, start_refused, window_refused, length_refused, length_refuses, refused_first, first_refused, last_refused, lookup_refused, lookup_past, lookup_found, accepted_inv as frame-accepted-inv, inv_accepted as frame-inv-accepted}
use Rattle.protocol.specs.declared.Stage.TheVariants.{SaveCtx}
use Rattle.switcher.specs.declared.Switcher.{Switcher}
use Rattle.run_switch.specs.Seam.{calls_words}
use Rattle.switcher.specs.Switch.{state_verdict, stepped, new_of}
use Rattle.run_switch.specs.RunSwitch.{switch_verdict, run_switch_of}
use Rattle.switcher.proofs.SwitchLaws.{in_phase_lem, accepted_inv, inv_accepted, frame_refused, only_strange, new_refused, new_started, step_verdict, step_refused}
use Rattle.run_switch.proofs.RunSwitchLaws.{switch_refused, switch_refuses, switch_outside, switch_due, run_verdict_lem, run_refused}
use Rattle.port.specs.Refusals.{Refuses, RightBefore, NoBudget, OtherStart, OtherLength, FrameRefusals, LookupRefusals, NewRefusals, StateRefusals, StepRefusals, SwitchRefusals, PortRefusals}

refused_with : (v : Verdict) → Refuses v → (r : Refusal) × (v ≡ Err r)
refused_with (Ok _) refuses = absurd (refuses refl)
refused_with (Err r) refuses = (r, refl)

module _ (f : MajorFrame) where
  -- the frame's refusal, by what is wrong first
  by_fault : (P : Refusal → Type 0)
      → ((i : ℕ) → NoBudget f i → P (ZeroBudget i))
      → ((i : ℕ) → OtherStart f i → P (WrongStart i))
      → ((i : ℕ) → OtherLength f i → P (WrongLength i))
      → (r : Refusal) → frame_verdict f ≡ Err r → P r
  by_fault P no-budget other-start other_length r e =
      ⊎_elim
      (λ at.
      let (i, first) = at in
      let right : RightBefore f i = λ j h. (test_accepted f j).0 (first.none_before j (omega arith) (omega arith)) in
      window_refused f P i r first.refuses (λ none. no-budget i (omega arith, right, none)) (λ some other. other-start i (omega arith, right, some, other)))
      (λ last.
      let (is, other) = length_refuses f r last.1 in
      rw is at (other_length 3 (refl, λ j h. (test_accepted f j).0 (last.0 j (omega arith)), other)))
      (refused_first f r e)

  -- and the other way: the first that is wrong is what the check refuses
  window_first : (r : Refusal) (i : ℕ) → i < 4 → RightBefore f i → window_test f i ≡ Err r → frame_verdict f ≡ Err r
  window_first r i below right e =
      first_refused f r i
      (record {
        from_first = omega arith;
        before_end = omega arith;
        refuses = e;
        none_before = λ j low h. (test_accepted f j).1 (right j (omega arith));
      })

  frame_refusals : FrameRefusals f (frame_verdict f)
  frame_refusals =
      record {
        zero_budget_lem =
            λ i. (
              λ e.
                  by_fault (λ r. r ≡ ZeroBudget i → NoBudget f i) (λ j h q. let here : j ≡ i = cc in rw (sym here) h)
                  (λ j h q. absurd (omega (arith, ap number_of q)))
                  (λ j h q. absurd (omega (arith, ap number_of q))) (ZeroBudget i)
                  (same_outcome (frame_verdict f) (Err (ZeroBudget i)) e)
                  refl,
              λ h. ap outcome (window_first (ZeroBudget i) i h.0 h.1 (budget_refused f i h.2)),
            );
        wrong_start =
            λ i. (
              λ e.
                  by_fault (λ r. r ≡ WrongStart i → OtherStart f i) (λ j h q. absurd (omega (arith, ap number_of q)))
                  (λ j h q. let here : j ≡ i = cc in rw (sym here) h)
                  (λ j h q. absurd (omega (arith, ap number_of q))) (WrongStart i)
                  (same_outcome (frame_verdict f) (Err (WrongStart i)) e)
                  refl,
              λ h. ap outcome (window_first (WrongStart i) i h.0 h.1 (start_refused f i h.2 h.3)),
            );
        wrong_length_lem =
            λ i. (
              λ e.
                  by_fault (λ r. r ≡ WrongLength i → OtherLength f i) (λ j h q. absurd (omega (arith, ap number_of q)))
                  (λ j h q. absurd (omega (arith, ap number_of q)))
                  (λ j h q. let here : j ≡ i = cc in rw (sym here) h) (WrongLength i)
                  (same_outcome (frame_verdict f) (Err (WrongLength i)) e)
                  refl,
              λ h.
                  ap outcome (last_refused f (WrongLength 3) (λ j below. (test_accepted f j).1 (h.1 j (omega arith))) (length_refused f h.2))
                  ∙ ap (λ (at : ℕ). (5, at)) (sym h.0),
            );
        no_other =
            λ h.
            let (r, e) = refused_with (frame_verdict f) h in
            rw e
            (by_fault (λ r. (i : ℕ) × ((outcome (Err r) ≡ (2, i)) ⊎ ((outcome (Err r) ≡ (3, i)) ⊎ (outcome (Err r) ≡ (5, i)))))
            (λ j h. (j, inl refl))
            (λ j h. (j, inr (inl refl)))
            (λ j h. (j, inr (inr refl))) r e);
      }

  -- a frame is refused with no number above 5
  few : (r : Refusal) → frame_verdict f ≡ Err r → number_of r ≤ 5
  few = by_fault (λ r. number_of r ≤ 5) (λ i h. omega arith) (λ i h. omega arith) (λ i h. omega arith)

  lookup_refusals : (t : ℕ) → LookupRefusals f t (current_window f t)
  lookup_refusals t = by_verdict (frame_verdict f) refl
    where
      by_verdict : (v : Verdict) → frame_verdict f ≡ v → LookupRefusals f t (current_window f t)
      by_verdict (Ok _) e =
          elim (dec_lt t f.frame_len) [
            | yes below ↦
                rw (lookup_found f t e below)
                (record {
                  bad_frame = λ h. absurd (h (ap outcome e));
                  past_frame = (λ q. absurd (omega (arith, ap (λ o. o.0) q)), λ h. absurd (omega arith));
                  no_other = λ h good in_frame. h refl;
                  answers_0 = λ h. absurd (h refl);
                })
            | no past ↦
                rw (lookup_past f t e (omega arith))
                (record {
                  bad_frame = λ h. absurd (h (ap outcome e));
                  past_frame = (λ q. (frame-accepted-inv f e, omega arith), λ h. refl);
                  no_other = λ h good in_frame. omega arith;
                  answers_0 = λ h. refl;
                })
          ]
      by_verdict (Err r) e =
          rw (lookup_refused f t r e)
          (record {
            bad_frame = λ h. ap outcome (sym e);
            past_frame = (
              λ q. absurd (omega (arith, few r e, ap (λ o. o.0) q)),
              λ h. absurd (never_both (sym (frame-inv-accepted f h.0) ∙ e)),
            );
            no_other = λ h good in_frame. never_both (sym (frame-inv-accepted f good) ∙ e);
            answers_0 = λ h. refl;
          })

  new_refusals : NewRefusals f (new_of f)
  new_refusals = by_verdict (frame_verdict f) refl
    where
      by_verdict : (v : Verdict) → frame_verdict f ≡ v → NewRefusals f (new_of f)
      by_verdict (Ok _) e =
          rw (new_started f e) (record { bad_frame = ap outcome (sym e); gives_zeros = λ h. absurd (h refl) })
      by_verdict (Err r) e =
          rw (new_refused f r e) (record { bad_frame = ap outcome (sym e); gives_zeros = λ h. refl })

module _ (s : Switcher) where
  -- a state is refused as its frame is, or with 17
  state_refused : (r : Refusal) → state_verdict s ≡ Err r → (number_of r ≤ 5) ⊎ (r ≡ StrangeState)
  state_refused r e = by_verdict (frame_verdict s.frame) refl
    where
      by_verdict : (v : Verdict) → frame_verdict s.frame ≡ v → (number_of r ≤ 5) ⊎ (r ≡ StrangeState)
      by_verdict (Ok _) ok =
          ⊎_elim (λ q. absurd (never_both (sym q ∙ e))) (λ q. let same : Err r ≡ Err StrangeState = sym e ∙ q in inr (cc)) (only_strange s ok)
      by_verdict (Err x) bad =
          let same : Err r ≡ Err x = sym e ∙ frame_refused s x bad in
          let is : r ≡ x = cc in
          inl (rw is (few s.frame x bad))

  good_frame : state_verdict s ≡ Err StrangeState → FrameInv s.frame
  good_frame e = by_verdict (frame_verdict s.frame) refl
    where
      by_verdict : (v : Verdict) → frame_verdict s.frame ≡ v → FrameInv s.frame
      by_verdict (Ok _) ok = frame-accepted-inv s.frame ok
      by_verdict (Err r) bad =
          let same : Err StrangeState ≡ Err r = sym e ∙ frame_refused s r bad in
          let is : r ≡ StrangeState = cc in
          absurd (omega (arith, few s.frame r bad, ap number_of is))

  state_refusals : StateRefusals s (state_verdict s)
  state_refusals =
      record {
        bad_frame = λ h. let (r, e) = refused_with (frame_verdict s.frame) h in ap outcome (frame_refused s r e ∙ sym e);
        strange = (
          λ q.
              let e : state_verdict s ≡ Err StrangeState = same_outcome (state_verdict s) (Err StrangeState) q in
              (good_frame e, λ inv. never_both (sym (inv_accepted s inv) ∙ e)),
          λ h.
              ⊎_elim (λ ok. absurd (h.1 (accepted_inv s ok))) (λ e. ap outcome e)
              (only_strange s (frame-inv-accepted s.frame h.0)),
        );
      }

  step_refusals : (next : Switcher) (due : Bool) → StepRefusals s (stepped (state_verdict s) s next due)
  step_refusals next due =
      let guard = step_verdict (state_verdict s) s next due in
      let refused : (h : Refuses (stepped (state_verdict s) s next due).verdict) → (r : Refusal) × (state_verdict s ≡ Err r) = λ h. let (r, e) = refused_with _ h in (r, sym guard ∙ e) in
      record {
        state = rw guard state_refusals;
        no_other = λ h inv. h (ap outcome (guard ∙ inv_accepted s inv));
        state_back = λ h. let (r, e) = refused h in ap (λ a. a.state) (step_refused (state_verdict s) s next due r e);
        not_done = λ h. let (r, e) = refused h in ap (λ a. a.done) (step_refused (state_verdict s) s next due r e);
      }

  -- the switch's verdict has what the state's has
  switch_state : StateRefusals s (switch_verdict s)
  switch_state =
      record {
        bad_frame = λ h. let (r, e) = refused_with (frame_verdict s.frame) h in ap outcome (switch_refused s r (frame_refused s r e) ∙ sym e);
        strange = (
          λ q.
              ⊎_elim (λ e. state_refusals.strange.0 (ap outcome e)) (λ h. absurd (omega (arith, ap number_of h.1)))
              (switch_refuses s StrangeState (same_outcome (switch_verdict s) (Err StrangeState) q)),
          λ h. ap outcome (switch_refused s StrangeState (same_outcome (state_verdict s) (Err StrangeState) (state_refusals.strange.1 h))),
        );
      }

  switch_refusals : (save swap resume : ℕ) → SwitchRefusals s (run_switch_of s save swap resume)
  switch_refusals save swap resume =
      let guard = run_verdict_lem s save swap resume in
      let refused : (h : Refuses (run_switch_of s save swap resume).verdict) → (r : Refusal) × (switch_verdict s ≡ Err r) = λ h. let (r, e) = refused_with _ h in (r, sym guard ∙ e) in
      record {
        state = rw guard switch_state;
        no_call_open =
            rw guard (
              λ q.
                  ⊎_elim (λ e. ⊎_elim (λ h. absurd (omega arith)) (λ is. absurd (omega (arith, ap number_of is))) (state_refused NoCallOpen e))
                  (λ h. (accepted_inv s h.0, h.2))
                  (switch_refuses s NoCallOpen (same_outcome (switch_verdict s) (Err NoCallOpen) q)),
              λ h.
                  ap outcome
                  (switch_outside s (inv_accepted s h.0) (eq-false_of_not-eq-true (λ p. h.1 ((in_phase_lem s.phase SaveCtx).0 p)))),
            );
        no_other = λ h inv p. h (ap outcome (guard ∙ switch_due s (inv_accepted s inv) ((in_phase_lem s.phase SaveCtx).1 p)));
        state_back = λ h. let (r, e) = refused h in ap (λ a. a.state) (run_refused s save swap resume r e);
        no_call = λ h. let (r, e) = refused h in ap (λ a. calls_words a.calls) (run_refused s save swap resume r e);
      }

pub port_refusals : PortRefusals
port_refusals =
    record {
      check = frame_refusals;
      current_window_lem = lookup_refusals;
      new = new_refusals;
      tick = λ s t. step_refusals s _ _;
      mark_saved = λ s. step_refusals s _ _;
      mark_swapped = λ s. step_refusals s _ _;
      mark_resumed = λ s. step_refusals s _ _;
      run_switch = switch_refusals;
    }
