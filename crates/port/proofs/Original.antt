-- Every promise of the original follows from our contracts' definitions: each theorem takes the original's `requires` and
-- gives the record of its `ensures`, beside what document 01 fixes of the mark.
-- Assumes nothing.
use mathlib.Core.Bool.{Bool, true, false, true≢false}
use mathlib.Core.Logic.{◌↔◌}
use mathlib.Core.Path.{◌≡◌, refl, sym, ap, ◌∙◌}
use Prim.Native.Nat.{ℕ, ◌+◌, ◌<◌}
use native.Mathlib.Omega.{arith}
use Rattle.refusal.specs.Verdict.{accepted}
use Rattle.verdict.specs.Outcome.{outcome}
use Rattle.verdict.proofs.Outcome.{same_outcome}
use Rattle.timeline.specs.Windows.{Holds, next_window, next_tick}
use Rattle.timeline.proofs.Laws.{exactly_one, share_no_tick, next_holds, next_is_window}
use Rattle.major_frame.specs.declared.MajorFrame.{MajorFrame}
use Rattle.major_frame.specs.Frame.{offset_at, budget_at, win_end, FrameInv, InWindow, frame_verdict, current_window}
use Rattle.major_frame.proofs.FrameLaws.{follow, accepted_inv as frame-accepted-inv, inv_accepted as frame-inv-accepted, lookup_found}
use Rattle.protocol.specs.declared.Stage.{Stage}
use Rattle.protocol.specs.declared.Stage.TheVariants.{Running, SaveCtx, ProgramRegions, Resume}
use Rattle.switcher.specs.declared.Switcher.{Switcher}
use Rattle.run_switch.specs.declared.Switched.{Switched}
use Rattle.switcher.specs.declared.Stepped.{Stepped}
use Rattle.switcher.specs.Switch.{Inv, in_phase, state_verdict, at_boundary, moved, preempted, saved, swapped_in, resumed, stepped, new_of, tick_of, mark_saved_of, mark_swapped_of, mark_resumed_of}
use Rattle.run_switch.specs.RunSwitch.{run_switch_of}
use Rattle.switcher.proofs.SwitchLaws.{in_phase_lem, inv_accepted, new_started, boundary_says, step_cases}
use Rattle.run_switch.proofs.RunSwitchLaws.{one_call, two_calls, three_calls, switch_due, run_switches}
use Rattle.port.specs.Original.{Accepts, Check, CurrentWindow, New, Tick, MarkSaved, MarkSwapped, MarkResumed, RunSwitch, SwitchCalls, OriginalClauses, LeftOpen}

pub check : (f : MajorFrame) → Check f (frame_verdict f)
check f = record { answers = (λ e. frame-accepted-inv f (same_outcome (frame_verdict f) accepted e), λ h. ap outcome (frame-inv-accepted f h)) }

inside : (f : MajorFrame) (i t : ℕ) → InWindow f i t → Holds (offset_at f) (budget_at f) i t
inside f i t h = record { started = h.started; not_ended = h.not_ended }

outside : (f : MajorFrame) (i t : ℕ) → i < 4 → Holds (offset_at f) (budget_at f) i t → InWindow f i t
outside f i t k h = record { is_window = k; started = h.started; not_ended = h.not_ended }

module _ (f : MajorFrame) (h : FrameInv f) where
  pub lemma_window_disjoint : (i j t : ℕ) → i < 4 → j < 4 → (i ≡ j → ⊥) → InWindow f i t → InWindow f j t → ⊥
  lemma_window_disjoint i j t k l other a b = other (share_no_tick (follow f h) i j t k l (inside f i t a) (inside f j t b))

  pub lemma_no_skip : (cur t : ℕ) → cur < 4 → InWindow f cur t → t + 1 ≡ win_end f cur
      → InWindow f (next_window 4 cur) (next_tick f.frame_len t)
  lemma_no_skip cur t k a last =
      outside f _ _ (next_is_window (follow f h) cur k) (next_holds (follow f h) cur t k last)

  pub current_window_lem : (t : ℕ) → t < f.frame_len → CurrentWindow f t (current_window f t)
  current_window_lem t k =
      let one = exactly_one (follow f h) t k in
      rw (lookup_found f t (frame-inv-accepted f h) k)
      (record {
        accepts = refl;
        is_window = one.is_window;
        holds = outside f _ t one.is_window one.holds;
        no_other = λ j l other a. other (one.no_other j l (inside f j t a));
      })

-- document 01: the mark is false after `new`
pub new : (f : MajorFrame) → FrameInv f → (New f (new_of f)) × ((new_of f).state.swapped ≡ false)
new f h =
    rw (new_started f (frame-inv-accepted f h)) (
      record {
        accepts = refl;
        inv = record { frame_inv = h; cur_is_window = omega arith; resume_is_swapped = λ e. cc; save_is_not_swapped = λ e. cc; program_is_not_swapped = λ e. cc };
        running = refl;
        window_zero = refl;
        frame_kept = refl;
      },
      refl,
    )

-- a test that is false refutes what it tests
refuted : {A : Type 0} {due : Bool} → (due ≡ true) ↔ A → due ≡ false → A → ⊥
refuted test e q = true≢false (sym (test.1 q) ∙ e)

not_done : {A : Type 0} → (A → ⊥) → (false ≡ true) ↔ A
not_done no_way = (λ q. absurd (true≢false (sym q)), λ q. absurd (no_way q))

-- each maker keeps `inv`
moved_inv : (s : Switcher) (p : Stage) (m : Bool) (w : ℕ) → Inv s → w < 4 → (p ≡ Resume → m ≡ true) → (p ≡ SaveCtx → m ≡ false)
    → (p ≡ ProgramRegions → m ≡ false) → Inv (moved s w p m)
moved_inv s p m w h k a b c =
    record { frame_inv = h.frame_inv; cur_is_window = k; resume_is_swapped = a; save_is_not_swapped = b; program_is_not_swapped = c }

preempted_inv : (s : Switcher) → Inv s → Inv (preempted s)
preempted_inv s h = moved_inv s SaveCtx false s.cur h h.cur_is_window (λ q. cc) (λ q. refl) (λ q. cc)

saved_inv : (s : Switcher) → Inv s → s.phase ≡ SaveCtx → Inv (saved s)
saved_inv s h p = moved_inv s ProgramRegions s.swapped s.cur h h.cur_is_window (λ q. cc) (λ q. cc) (λ q. h.save_is_not_swapped p)

swapped_in_inv : (s : Switcher) → Inv s → Inv (swapped_in s)
swapped_in_inv s h = moved_inv s Resume true s.cur h h.cur_is_window (λ q. refl) (λ q. cc) (λ q. cc)

resumed_inv : (s : Switcher) → Inv s → Inv (resumed s)
resumed_inv s h =
    moved_inv s Running s.swapped (next_window 4 s.cur) h (next_is_window (follow s.frame h.frame_inv) s.cur h.cur_is_window)
    (λ q. cc) (λ q. cc) (λ q. cc)

-- on a state that `inv` lets in a step is taken or not, as its test says
module _ (s : Switcher) (h : Inv s) where
  -- what holds of the step taken and of the step not taken holds of the step
  by_test : (P : Stepped → Type 0) (due : Bool) (next : Switcher)
      → (due ≡ true → P (record { state = next; done = true; verdict = accepted }))
      → (due ≡ false → P (record { state = s; done = false; verdict = accepted }))
      → P (stepped (state_verdict s) s next due)
  by_test P due next = step_cases P (state_verdict s) s next due (inv_accepted s h)

  pub tick : (t : ℕ) → Tick s t (tick_of s t)
  tick t =
      by_test (Tick s t) (at_boundary s t) (preempted s)
      (λ e.
      let (p, b) = (boundary_says s t).0 e in
      record {
        accepts = refl;
        inv = preempted_inv s h;
        frame_kept = refl;
        cur_kept = refl;
        switched = (λ q. (p, b), λ q. refl);
        at_boundary_lem = λ q c. (refl, refl);
        off_boundary = λ q no_way. absurd (no_way b);
        not_running = λ no_way. absurd (no_way p);
      })
      (λ e.
      record {
        accepts = refl;
        inv = h;
        frame_kept = refl;
        cur_kept = refl;
        switched = not_done (refuted (boundary_says s t) e);
        at_boundary_lem = λ q c. absurd (refuted (boundary_says s t) e (q, c));
        off_boundary = λ q no_way. (q, refl);
        not_running = λ no_way. (refl, refl);
      })

  pub mark_saved : MarkSaved s (mark_saved_of s)
  mark_saved =
      let test = in_phase_lem s.phase SaveCtx in
      by_test (MarkSaved s) (in_phase s.phase SaveCtx) (saved s)
      (λ e.
      let p = test.0 e in
      record {
        accepts = refl;
        inv = saved_inv s h p;
        frame_kept = refl;
        cur_kept = refl;
        swapped_kept = refl;
        ok = (λ q. p, λ q. refl);
        steps = λ q. refl;
        stays = λ no_way. absurd (no_way p);
      })
      (λ e.
      record {
        accepts = refl;
        inv = h;
        frame_kept = refl;
        cur_kept = refl;
        swapped_kept = refl;
        ok = not_done (refuted test e);
        steps = λ q. absurd (refuted test e q);
        stays = λ no_way. refl;
      })

  pub mark_swapped : MarkSwapped s (mark_swapped_of s)
  mark_swapped =
      let test = in_phase_lem s.phase ProgramRegions in
      by_test (MarkSwapped s) (in_phase s.phase ProgramRegions) (swapped_in s)
      (λ e.
      let p = test.0 e in
      record {
        accepts = refl;
        inv = swapped_in_inv s h;
        frame_kept = refl;
        cur_kept = refl;
        ok = (λ q. p, λ q. refl);
        steps = λ q. (refl, refl);
        stays = λ no_way. absurd (no_way p);
      })
      (λ e.
      record {
        accepts = refl;
        inv = h;
        frame_kept = refl;
        cur_kept = refl;
        ok = not_done (refuted test e);
        steps = λ q. absurd (refuted test e q);
        stays = λ no_way. (refl, refl);
      })

  -- document 01: the mark is true after a successful `mark_resumed`
  pub mark_resumed : (MarkResumed s (mark_resumed_of s)) × (s.phase ≡ Resume → (mark_resumed_of s).state.swapped ≡ true)
  mark_resumed =
      let test = in_phase_lem s.phase Resume in
      by_test (λ r. MarkResumed s r × (s.phase ≡ Resume → r.state.swapped ≡ true)) (in_phase s.phase Resume) (resumed s)
      (λ e.
      let p = test.0 e in (
        record {
          accepts = refl;
          inv = resumed_inv s h;
          frame_kept = refl;
          ok = (λ q. p, λ q. refl);
          steps = λ q. (refl, refl);
          stays = λ no_way. absurd (no_way p);
        },
        λ q. h.resume_is_swapped q,
      ))
      (λ e. (
        record {
          accepts = refl;
          inv = h;
          frame_kept = refl;
          ok = not_done (refuted test e);
          steps = λ q. absurd (refuted test e q);
          stays = λ no_way. (refl, refl, refl);
        },
        λ q. absurd (refuted test e q),
      ))

  -- where a status is not zero, nothing is promised of three zeros
  failed_switch : {save swap resume : ℕ} {r : Switched} → Accepts r.verdict → Inv r.state → r.state.frame ≡ s.frame
      → (save ≡ 0 → swap ≡ 0 → resume ≡ 0 → ⊥)
      → RunSwitch s save swap resume r × (save ≡ 0 → swap ≡ 0 → resume ≡ 0 → r.state.swapped ≡ true)
  failed_switch accepts inv kept fails = (
    record {
      accepts = accepts;
      inv = inv;
      frame_kept = kept;
      running = λ a b c. absurd (fails a b c);
      next_window_lem = λ a b c. absurd (fails a b c);
    },
    λ a b c. absurd (fails a b c),
  )

  -- document 01: the mark is true after a successful `run_switch`
  pub run_switch : (save swap resume : ℕ) → s.phase ≡ SaveCtx
      → (RunSwitch s save swap resume (run_switch_of s save swap resume))
      × (save ≡ 0 → swap ≡ 0 → resume ≡ 0 → (run_switch_of s save swap resume).state.swapped ≡ true)
  run_switch save swap resume p =
      let kept = saved_inv s h p in
      let programmed = swapped_in_inv (saved s) kept in
      run_switches s save swap resume
      (λ r. RunSwitch s save swap resume r × (save ≡ 0 → swap ≡ 0 → resume ≡ 0 → r.state.swapped ≡ true))
      (switch_due s (inv_accepted s h) ((in_phase_lem s.phase SaveCtx).1 p))
      (λ fails. failed_switch refl h refl (λ a b c. fails a))
      (λ saves fails. failed_switch refl kept refl (λ a b c. fails b))
      (λ saves swaps fails. failed_switch refl programmed refl (λ a b c. fails c))
      (λ saves swaps resumes. (
        record {
          accepts = refl;
          inv = resumed_inv (swapped_in (saved s)) programmed;
          frame_kept = refl;
          running = λ a b c. refl;
          next_window_lem = λ a b c. refl;
        },
        λ a b c. refl,
      ))

  pub switch_calls : (save swap resume : ℕ) → s.phase ≡ SaveCtx → SwitchCalls s save swap resume (run_switch_of s save swap resume)
  switch_calls save swap resume p =
      run_switches s save swap resume (SwitchCalls s save swap resume)
      (switch_due s (inv_accepted s h) ((in_phase_lem s.phase SaveCtx).1 p))
      (λ fails.
      record {
        save_failed = λ a. (refl, one_call _ _);
        swap_failed = λ a b. absurd (fails a);
        resume_failed = λ a b c. absurd (fails a);
        none_failed = λ a b c. absurd (fails a);
      })
      (λ saves fails.
      record {
        save_failed = λ a. absurd (a saves);
        swap_failed = λ a b. (refl, two_calls _ _);
        resume_failed = λ a b c. absurd (fails b);
        none_failed = λ a b c. absurd (fails b);
      })
      (λ saves swaps fails.
      record {
        save_failed = λ a. absurd (a saves);
        swap_failed = λ a b. absurd (b swaps);
        resume_failed = λ a b c. (refl, three_calls _ _);
        none_failed = λ a b c. absurd (fails c);
      })
      (λ saves swaps resumes.
      record {
        save_failed = λ a. absurd (a saves);
        swap_failed = λ a b. absurd (b swaps);
        resume_failed = λ a b c. absurd (c resumes);
        none_failed = λ a b c. (refl, three_calls _ _);
      })

pub lemma_resume_implies_region_swap : (s : Switcher) → Inv s → s.phase ≡ Resume → s.swapped ≡ true
lemma_resume_implies_region_swap s h p = h.resume_is_swapped p

pub original_clauses : OriginalClauses
original_clauses =
    record {
      check = check;
      current_window_lem = current_window_lem;
      new = λ f h. (new f h).0;
      tick = tick;
      mark_saved = mark_saved;
      mark_swapped = mark_swapped;
      mark_resumed = λ s h. (mark_resumed s h).0;
      run_switch = λ s h p save swap resume. (run_switch s h save swap resume p).0;
      window_disjoint = lemma_window_disjoint;
      no_skip = lemma_no_skip;
      resume_implies_region_swap = lemma_resume_implies_region_swap;
    }

pub left_open : LeftOpen
left_open =
    record {
      new_mark = λ f h. (new f h).1;
      resumed_mark = λ s h. (mark_resumed s h).1;
      switched_mark = λ s h p save swap resume. (run_switch s h save swap resume p).1;
      calls = λ s h p save swap resume. switch_calls s h save swap resume p;
    }
