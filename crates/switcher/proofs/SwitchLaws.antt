-- What each definition of the switcher says where its tests are known.
-- Assumes nothing.
use mathlib.Core.Bool.{Bool, true, false, not, and-eq-true_iff}
use mathlib.Core.Logic.{◌↔◌, ◌⊎◌, inl, inr}
use mathlib.Core.Path.{◌≡◌, refl, sym, ◌∙◌, ap}
use Prim.Native.Nat.{ℕ, ◌<◌}
use borrow.Author.Tests.{lt-ltb, eq-eqb, eqb-true, ltb-true, not-true, not-false}
use lib.Dec.{ltb}
use Rattle.refusal.specs.declared.Refusal.{Refusal}
use Rattle.refusal.specs.declared.Refusal.TheVariants.{StrangeState}
use Rattle.refusal.specs.Verdict.{Verdict, accepted}
use Rattle.std.specs.Prelude.{Ok, Err}
use Rattle.std.specs.Result.{is_ok}
use Rattle.refusal.specs.First.{refuse_if, or_else}
use Rattle.verdict.proofs.First.{refuses_if, both_accept}
use Rattle.major_frame.specs.declared.MajorFrame.{MajorFrame}
use Rattle.major_frame.specs.Frame.{frame_verdict}
use Rattle.major_frame.proofs.FrameLaws.{accepted_inv as frame-accepted-inv, inv_accepted as frame-inv-accepted}
use Rattle.protocol.proofs.NumbersLaws.{stage_named, stage_back}
use Rattle.protocol.specs.declared.Stage.{Stage}
use Rattle.protocol.specs.declared.Stage.TheVariants.{Running, SaveCtx, ProgramRegions, Resume}
use Rattle.protocol.specs.Numbers.{stage_number}
use Rattle.switcher.specs.declared.Switcher.{Switcher}
use Rattle.switcher.specs.declared.Stepped.{Stepped}
use Rattle.switcher.specs.Switch.{Inv, Boundary, in_phase, mark_fits, state_verdict, at_boundary, started, zeros, made, new_of, stepped}

-- two phases of one number are one
pub in_phase_lem : (p q : Stage) → (in_phase p q ≡ true) ↔ (p ≡ q)
unfolding in_phase
in_phase_lem p q =
    (λ e. sym (stage_back p) ∙ ap stage_named (eqb-true _ _ e) ∙ stage_back q, λ e. eq-eqb _ _ (ap stage_number e))

-- the test of the mark is what `inv` says of it
mark_says : (p : Stage) (m : Bool)
    → (mark_fits p m ≡ true) ↔ ((p ≡ Resume → m ≡ true) × (p ≡ SaveCtx → m ≡ false) × (p ≡ ProgramRegions → m ≡ false))
mark_says Running m = (λ e. (λ q. cc, λ q. cc, λ q. cc), λ h. refl)
mark_says SaveCtx m = (λ e. (λ q. cc, λ q. not-true m e, λ q. cc), λ h. ap not (h.1 refl))
mark_says ProgramRegions m = (λ e. (λ q. cc, λ q. cc, λ q. not-true m e), λ h. ap not (h.2 refl))
mark_says Resume m = (λ e. (λ q. e, λ q. cc, λ q. cc), λ h. h.0 refl)

module _ (s : Switcher) where
  -- a state is accepted exactly if `inv` holds
  pub accepted_inv : state_verdict s ≡ accepted → Inv s
  unfolding state_verdict
  accepted_inv e =
      let (early, mark-ok) = (both_accept _ _).0 e in
      let (frame-ok, cur-ok) = (both_accept (frame_verdict s.frame) _).0 early in
      let mark = (mark_says s.phase s.swapped).0 (not-false _ ((refuses_if _ StrangeState).0 mark-ok)) in
      record {
        frame_inv = frame-accepted-inv s.frame frame-ok;
        cur_is_window = ltb-true s.cur 4 (not-false _ ((refuses_if _ StrangeState).0 cur-ok));
        resume_is_swapped = mark.0;
        save_is_not_swapped = mark.1;
        program_is_not_swapped = mark.2;
      }

  pub tests_pass : frame_verdict s.frame ≡ accepted → s.cur < 4 → mark_fits s.phase s.swapped ≡ true → state_verdict s ≡ accepted
  unfolding state_verdict or_else refuse_if
  tests_pass e h m = rw (e, lt-ltb s.cur 4 h, m)

  pub inv_accepted : Inv s → state_verdict s ≡ accepted
  inv_accepted h =
      tests_pass (frame-inv-accepted s.frame h.frame_inv) h.cur_is_window
      ((mark_says s.phase s.swapped).1 (h.resume_is_swapped, h.save_is_not_swapped, h.program_is_not_swapped))

  -- a bad frame is what is wrong first; with a good one there is 17 and no other number
  pub frame_refused : (r : Refusal) → frame_verdict s.frame ≡ Err r → state_verdict s ≡ Err r
  unfolding state_verdict or_else
  frame_refused r e = rw e

  pub only_strange : frame_verdict s.frame ≡ accepted → (state_verdict s ≡ accepted) ⊎ (state_verdict s ≡ Err StrangeState)
  unfolding state_verdict or_else refuse_if
  only_strange e = rw e (tests (ltb s.cur 4) (mark_fits s.phase s.swapped))
    where
      tests : (a b : Bool) → (or_else (refuse_if (not a) StrangeState) (refuse_if (not b) StrangeState) ≡ accepted)
          ⊎ (or_else (refuse_if (not a) StrangeState) (refuse_if (not b) StrangeState) ≡ Err StrangeState)
      tests true true = inl refl
      tests true false = inr refl
      tests false b = inr refl

-- `new` of a refused frame and of an accepted one
module _ (f : MajorFrame) where
  pub new_refused : (r : Refusal) → frame_verdict f ≡ Err r → new_of f ≡ record { state = zeros; verdict = Err r }
  unfolding new_of made
  new_refused r e = rw e

  pub new_started : frame_verdict f ≡ accepted → new_of f ≡ record { state = started f; verdict = accepted }
  unfolding new_of made
  new_started e = rw e

  -- by a verdict that is tested
  pub new_if_ok : (v : Verdict) → v ≡ frame_verdict f → is_ok v ≡ true → new_of f ≡ record { state = started f; verdict = v }
  unfolding new_of made
  new_if_ok (Ok _) e ok = rw (← e)
  new_if_ok (Err r) e ok = cc

-- `tick` fires exactly if it is Running at the boundary
pub boundary_says : (s : Switcher) (t : ℕ) → (at_boundary s t ≡ true) ↔ ((s.phase ≡ Running) × Boundary s t)
unfolding at_boundary
boundary_says s t = (
  λ e. let (b, p) = (and-eq-true_iff _ _).0 e in ((in_phase_lem s.phase Running).0 p, eqb-true _ _ b),
  λ q. (and-eq-true_iff _ _).1 (eq-eqb _ _ q.1, (in_phase_lem s.phase Running).1 q.0),
)

-- a step has its guard's verdict: refused, it leaves the state; accepted, it is taken or not, as its test says
pub step_verdict : (v : Verdict) (s next : Switcher) (due : Bool) → (stepped v s next due).verdict ≡ v
unfolding stepped
step_verdict v s next due = refl

pub step_refused : (v : Verdict) (s next : Switcher) (due : Bool) (r : Refusal) → v ≡ Err r
    → stepped v s next due ≡ record { state = s; done = false; verdict = Err r }
unfolding stepped
step_refused v s next due r e = rw e

pub step_cases : (P : Stepped → Type 0) (v : Verdict) (s next : Switcher) (due : Bool) → v ≡ accepted
    → (due ≡ true → P (record { state = next; done = true; verdict = accepted }))
    → (due ≡ false → P (record { state = s; done = false; verdict = accepted }))
    → P (stepped v s next due)
unfolding stepped
step_cases P v s next true e taken left = rw e (taken refl)
step_cases P v s next false e taken left = rw e (left refl)
