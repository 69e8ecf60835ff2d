-- What the check's loop does, in terms of the frame's verdict: at window i the verdict is what the tests from i on say. And
-- the verdict accepts exactly if `frame_inv` holds, which is that four windows follow one another.
-- Assumes nothing.
use mathlib.Core.Bool.{not}
use mathlib.Core.Logic.Iff
use mathlib.Core.Logic.{◌↔◌, ◌⊎◌, ⊎_map, ⊎_elim}
use mathlib.Core.Path.{◌≡◌, refl, sym}
use Prim.Native.Nat.{ℕ, zero, suc, ◌+◌, ◌-◌, ◌≤◌, ◌<◌}
use native.Mathlib.Omega.{arith}
use borrow.Author.Tests.{eq-eqb, ne_eqb}
use lib.Dec.{eqb}
use Rattle.refusal.specs.declared.Refusal.{Refusal}
use Rattle.refusal.specs.declared.Refusal.TheVariants.{ZeroBudget, WrongStart, WrongLength, TickPastFrame}
use Rattle.refusal.specs.Verdict.{Verdict, accepted}
use Rattle.std.specs.Prelude.{Err}
use Rattle.refusal.specs.First.{refuse_if, or_else}
use Rattle.verdict.specs.First.{first_fault, FirstAt}
use Rattle.verdict.proofs.First.{refuses_if, fault_found, own_refusal, both_accept, one_refuses, first_refuses, refuses_first, each_accepts, all_accept, goes_on, stops, ends}
use Rattle.refusal.proofs.Tests.{equal, positive, same, not_same}
use Rattle.timeline.specs.Windows.{Follow, window_at}
use Rattle.timeline.specs.Lookup.{lookup_verdict}
use Rattle.timeline.proofs.Laws.{ends_in_frame}
use Rattle.timeline.proofs.Lookup as lookup
use Rattle.major_frame.specs.declared.MajorFrame.{MajorFrame}
use Rattle.major_frame.specs.Frame.{offset_at, budget_at, win_end, start_of, FrameInv, window_fault, window_test, length_test, frame_verdict, located, current_window}

-- what the tests from window i on say
abbrev pub verdict_from : MajorFrame → ℕ → Verdict
verdict_from f i = or_else (first_fault (window_test f) i (4 - i)) (length_test f)

module _ (f : MajorFrame) where
  pub check_goes_on : (i : ℕ) → i < 4 → window_test f i ≡ accepted → verdict_from f i ≡ verdict_from f (i + 1)
  check_goes_on i h e = rw (goes_on (window_test f) 4 i h e)

  pub check_stops : (i : ℕ) (r : Refusal) → i < 4 → window_test f i ≡ Err r → verdict_from f i ≡ Err r
  unfolding or_else
  check_stops i r h e = rw (stops (window_test f) 4 i r h e)

  pub check_ends : (i : ℕ) → 4 ≤ i → verdict_from f i ≡ length_test f
  unfolding or_else
  check_ends i h = rw (ends (window_test f) 4 i h)

  pub check_at_end : (i : ℕ) → 4 ≤ i → i ≤ 4 → start_of f i ≡ win_end f 3
  check_at_end i low high = let four : i ≡ 4 = omega arith in rw four

-- what holds of the four windows holds of each
four : (P : ℕ → Type 0) → P 0 → P 1 → P 2 → P 3 → (i : ℕ) → i < 4 → P i
four P a b c d zero h = a
four P a b c d (suc zero) h = b
four P a b c d (suc (suc zero)) h = c
four P a b c d (suc (suc (suc zero))) h = d
four P a b c d (suc (suc (suc (suc i)))) h = absurd (omega arith)

-- the tests of a window pass exactly if it is as it should be
window_accepted : (i start offset budget : ℕ) → (window_fault i start offset budget ≡ accepted) ↔ ((0 < budget) × (offset ≡ start))
unfolding window_fault
window_accepted i start offset budget = simp (both_accept, refuses_if, equal, positive) Iff.rfl

module _ (f : MajorFrame) where
  pub test_accepted : (i : ℕ) → (window_test f i ≡ accepted) ↔ ((0 < budget_at f i) × (offset_at f i ≡ start_of f i))
  unfolding window_test
  test_accepted i = window_accepted i (start_of f i) (offset_at f i) (budget_at f i)

  -- and they refuse for one of two reasons
  pub budget_refused : (i : ℕ) → budget_at f i ≡ 0 → window_test f i ≡ Err (ZeroBudget i)
  unfolding window_test window_fault or_else refuse_if
  budget_refused i e = rw (eq-eqb (budget_at f i) 0 e)

  pub start_refused : (i : ℕ) → 0 < budget_at f i → (offset_at f i ≡ start_of f i → ⊥) → window_test f i ≡ Err (WrongStart i)
  unfolding window_test window_fault or_else refuse_if
  start_refused i h other = rw ((positive (budget_at f i)).1 h, ne_eqb (offset_at f i) (start_of f i) other)

  pub window_refused : (P : Refusal → Type 0) (i : ℕ) (r : Refusal) → window_test f i ≡ Err r
      → (budget_at f i ≡ 0 → P (ZeroBudget i))
      → (0 < budget_at f i → (offset_at f i ≡ start_of f i → ⊥) → P (WrongStart i))
      → P r
  unfolding window_test window_fault
  window_refused P i r e no-budget other-start =
      ⊎_elim (λ q. rw (own_refusal (eqb (budget_at f i) 0) (ZeroBudget i) r q) at (no-budget ((same _ _).0 (fault_found _ _ r q))))
      (λ q.
      rw (own_refusal (not (eqb (offset_at f i) (start_of f i))) (WrongStart i) r q.1) at
      (other-start ((positive _).0 ((refuses_if _ _).0 q.0)) ((not_same _ _).0 (fault_found _ _ r q.1))))
      (one_refuses _ _ r e)

  pub length_accepted : (length_test f ≡ accepted) ↔ (win_end f 3 ≡ f.frame_len)
  unfolding length_test
  length_accepted = simp (refuses_if, equal) Iff.rfl

  pub length_refused : (win_end f 3 ≡ f.frame_len → ⊥) → length_test f ≡ Err (WrongLength 3)
  unfolding length_test refuse_if
  length_refused h = rw (ne_eqb (win_end f 3) f.frame_len h)

  pub length_refuses : (r : Refusal) → length_test f ≡ Err r → (WrongLength 3 ≡ r) × (win_end f 3 ≡ f.frame_len → ⊥)
  unfolding length_test
  length_refuses r e = (own_refusal _ _ r e, (not_same _ _).0 (fault_found _ _ r e))

  -- the check accepts exactly if `frame_inv` holds
  pub accepted_inv : frame_verdict f ≡ accepted → FrameInv f
  unfolding frame_verdict
  accepted_inv e =
      let p = (both_accept (first_fault (window_test f) 0 4) (length_test f)).0 e in
      let each : (i : ℕ) → i < 4 → (0 < budget_at f i) × (offset_at f i ≡ start_of f i) = λ i h. (test_accepted i).0 (each_accepts (window_test f) 0 4 p.0 i (omega arith) (omega arith)) in
      record {
        first_offset = (each 0 (omega arith)).1;
        budget_0 = (each 0 (omega arith)).0;
        budget_1 = (each 1 (omega arith)).0;
        budget_2 = (each 2 (omega arith)).0;
        budget_3 = (each 3 (omega arith)).0;
        end_0 = sym (each 1 (omega arith)).1;
        end_1 = sym (each 2 (omega arith)).1;
        end_2 = sym (each 3 (omega arith)).1;
        end_3 = length_accepted.0 p.1;
      }

  pub inv_accepted : FrameInv f → frame_verdict f ≡ accepted
  unfolding frame_verdict first_fault or_else
  inv_accepted h =
      rw (
        (test_accepted 0).1 (h.budget_0, h.first_offset),
        (test_accepted 1).1 (h.budget_1, sym h.end_0),
        (test_accepted 2).1 (h.budget_2, sym h.end_1),
        (test_accepted 3).1 (h.budget_3, sym h.end_2),
        length_accepted.1 h.end_3,
      )

  -- a refusal is the first in document 01's order: a window's, and none before it; or every window passes, and 5
  pub refused_first : (r : Refusal) → frame_verdict f ≡ Err r
      → ((i : ℕ) × FirstAt (window_test f) 0 4 r i) ⊎ (((i : ℕ) → i < 4 → window_test f i ≡ accepted) × (length_test f ≡ Err r))
  unfolding frame_verdict
  refused_first r e =
      ⊎_map (first_refuses (window_test f) 0 4 r)
      (λ p. (λ i h. each_accepts (window_test f) 0 4 p.0 i (omega arith) (omega arith), p.1))
      (one_refuses (first_fault (window_test f) 0 4) (length_test f) r e)

  pub first_refused : (r : Refusal) (i : ℕ) → FirstAt (window_test f) 0 4 r i → frame_verdict f ≡ Err r
  unfolding frame_verdict or_else
  first_refused r i h = rw (refuses_first (window_test f) 0 4 r i h)

  pub last_refused : (r : Refusal) → ((i : ℕ) → i < 4 → window_test f i ≡ accepted) → length_test f ≡ Err r → frame_verdict f ≡ Err r
  unfolding frame_verdict or_else
  last_refused r each e = rw (all_accept (window_test f) 0 4 (λ i low high. each i (omega arith))) e

  -- `frame_inv` says that the four windows follow one another
  pub follow : FrameInv f → Follow 4 (offset_at f) (budget_at f) f.frame_len
  follow h =
      record {
        one_at_least = omega arith;
        first_starts_at_zero = h.first_offset;
        budgets_are_positive = four (λ i. 0 < budget_at f i) h.budget_0 h.budget_1 h.budget_2 h.budget_3;
        starts_where_one_before_ends =
            λ i k. four (λ j. j < 3 → offset_at f (suc j) ≡ win_end f j) (λ l. sym h.end_0) (λ l. sym h.end_1) (λ l. sym h.end_2) (λ l. absurd (omega arith)) i (omega arith) (omega arith);
        last_end_is_frame_length = λ i e. let three : i ≡ 3 = omega arith in rw three h.end_3;
      }

  pub unfollow : Follow 4 (offset_at f) (budget_at f) f.frame_len → FrameInv f
  unfollow h =
      record {
        first_offset = h.first_starts_at_zero;
        budget_0 = h.budgets_are_positive 0 (omega arith);
        budget_1 = h.budgets_are_positive 1 (omega arith);
        budget_2 = h.budgets_are_positive 2 (omega arith);
        budget_3 = h.budgets_are_positive 3 (omega arith);
        end_0 = sym (h.starts_where_one_before_ends 0 (omega arith));
        end_1 = sym (h.starts_where_one_before_ends 1 (omega arith));
        end_2 = sym (h.starts_where_one_before_ends 2 (omega arith));
        end_3 = h.last_end_is_frame_length 3 refl;
      }

  -- an accepted frame's sums of offset and budget reach `frame_len`, a u32, and no more
  pub end_in_frame : FrameInv f → (i : ℕ) → i < 4 → win_end f i ≤ f.frame_len
  end_in_frame h i k = ends_in_frame (follow h) i k

  -- the three answers of a lookup
  pub lookup_refused : (t : ℕ) (r : Refusal) → frame_verdict f ≡ Err r → current_window f t ≡ located 0 (Err r)
  unfolding current_window
  lookup_refused t = lookup.refused located _ _ t _

  pub lookup_past : (t : ℕ) → frame_verdict f ≡ accepted → f.frame_len ≤ t → current_window f t ≡ located 0 (Err TickPastFrame)
  unfolding current_window
  lookup_past t = lookup.past located _ _ t _

  pub lookup_found : (t : ℕ) → frame_verdict f ≡ accepted → t < f.frame_len
      → current_window f t ≡ located (window_at 4 (offset_at f) (budget_at f) t) accepted
  unfolding current_window
  lookup_found t = lookup.found located _ _ t _

  pub lookup_verdict_lem : (t : ℕ) → (current_window f t).verdict ≡ lookup_verdict (frame_verdict f) f.frame_len t
  unfolding current_window
  lookup_verdict_lem t = refl
