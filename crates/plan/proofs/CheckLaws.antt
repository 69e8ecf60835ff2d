-- The verdict, test by test: document 01's order is the counts, a fold over the windows, the length, a fold over the rows.
-- Assumes nothing.
use mathlib.Core.List.{List, ◌∷◌}
use mathlib.Core.Bool.{true, false}
use mathlib.Core.Logic.{◌↔◌}
use mathlib.Core.Path.{◌≡◌, sym, ap, ◌∙◌}
use Prim.Native.Nat.{ℕ, ◌-◌}
use borrow.Author.Tests.{eq-eqb, ne_eqb}
use lib.ListN.{length}
use Rattle.refusal.specs.declared.Refusal.{Refusal}
use Rattle.refusal.specs.declared.Refusal.TheVariants.{Counts, WrongLength, Clash}
use Rattle.refusal.specs.Verdict.{Verdict, accepted}
use Rattle.std.specs.Prelude.{Err}
use Rattle.refusal.specs.First.{refuse_if, or_else}
use Rattle.verdict.specs.First.{refused, first_fault, upward, test_at, first_of, FirstIn}
use native.Mathlib.Omega.{arith}
use Rattle.row.specs.Tests.{clashes, row_fault}
use Rattle.rows.proofs.TestLaws.{row_count_right, counted as rows-counted}
use Rattle.rows.specs.Tests.{rows_verdict, clash_test, clashes_before, row_test}
use Rattle.refusal.proofs.Tests.{equal, positive, at_most, neither}
use Rattle.plan.specs.Plan.{CountsInRange, Plan, frame_length, window_count, row_count, window_of}
use Rattle.verdict.proofs.First.{refuses_if, or_accepted, or_assoc, one_kind, first_of_cons, first_of_both, first_upward, first_in, in_first}
use Rattle.records.specs.Records.{end_of, nth_row}
use Rattle.plan.specs.Faults.{wrong_counts, wrong_length, wrong, window_faults, row_faults, past_counts, order, verdict_of}
use Rattle.plan.specs.Parts.{window_fault, window_test}

abbrev pub counts_test : Plan → Verdict
counts_test p = refuse_if (wrong_counts (length p.windows) (length p.rows)) Counts

abbrev pub length_test : Plan → Verdict
length_test p =
    refuse_if (wrong_length (frame_length p) (window_of p (window_count p - 1))) (WrongLength (window_count p - 1))

-- the counts are in range exactly if 1 is not wrong
pub counts_accepted : (p : Plan) → (counts_test p ≡ accepted) ↔ CountsInRange p
unfolding wrong_counts
counts_accepted p = (
  λ e.
      let whole = simp (refuses_if, neither, equal, positive, at_most, row_count_right) at e in
      record {
        windows_whole = omega arith;
        rows_whole = omega arith;
        one_window_at_least = omega arith;
        windows_at_most = omega arith;
        rows_at_most = omega arith;
      },
  λ c. simp (refuses_if, neither, equal, positive, at_most, row_count_right) (((omega arith, omega arith), omega arith), (omega arith, omega arith)),
)

own_clash : (rows : List ℕ) (i : ℕ) → refuse_if (refused (clashes_before rows i)) (Clash i) ≡ clashes_before rows i
unfolding clashes_before clash_test
own_clash rows i = one_kind (λ j. clashes (nth_row rows j) (nth_row rows i)) (Clash i) 0 i

module _ (p : Plan) where
  window_tests : (i : ℕ) → first_of (wrong p) (window_faults i) ≡ window_test p.windows i
  unfolding first_of first_fault test_at wrong window_test window_fault
  window_tests i = simp or_accepted

  row_tests : (i : ℕ) → first_of (wrong p) (row_faults i) ≡ row_test p.rows i
  unfolding first_of first_fault test_at wrong row_test row_fault
  row_tests i = simp (own_clash, or_assoc, or_accepted)

  windows_upward : first_of (wrong p) (upward window_faults 0 (window_count p)) ≡ first_fault (window_test p.windows) 0 (window_count p)
  windows_upward = first_upward (wrong p) window_faults 0 (window_count p) ∙ (λ k. first_fault (λ i. window_tests i k) 0 (window_count p))

  rows_upward : first_of (wrong p) (upward row_faults 0 (row_count p)) ≡ first_fault (row_test p.rows) 0 (row_count p)
  rows_upward = first_upward (wrong p) row_faults 0 (row_count p) ∙ (λ k. first_fault (λ i. row_tests i k) 0 (row_count p))

  pub past_counts_lem : first_of (wrong p) (past_counts p)
      ≡ or_else (first_fault (window_test p.windows) 0 (window_count p)) (or_else (length_test p) (first_fault (row_test p.rows) 0 (row_count p)))
  unfolding past_counts wrong
  past_counts_lem =
      first_of_both (wrong p) (upward window_faults 0 (window_count p)) (WrongLength (window_count p - 1) ∷ upward row_faults 0 (row_count p))
      ∙ (λ k. or_else (windows_upward k) (first_of_cons (wrong p) (WrongLength (window_count p - 1)) (upward row_faults 0 (row_count p)) k))
      ∙ (λ k. or_else (first_fault (window_test p.windows) 0 (window_count p)) (or_else (length_test p) (rows_upward k)))

  pub in_order : verdict_of p
      ≡ or_else (counts_test p) (or_else (first_fault (window_test p.windows) 0 (window_count p)) (or_else (length_test p) (first_fault (row_test p.rows) 0 (row_count p))))
  unfolding verdict_of order wrong
  in_order = first_of_cons (wrong p) Counts (past_counts p) ∙ ap (or_else (counts_test p)) past_counts_lem

  -- the verdict at each place where `check` ends: the first part that refuses, or what the rows say
  pub counts_refuse : wrong_counts (length p.windows) (length p.rows) ≡ true → verdict_of p ≡ Err Counts
  unfolding or_else refuse_if
  counts_refuse e = rw (in_order, e)

  module _ (counted : wrong_counts (length p.windows) (length p.rows) ≡ false) where
    pub in_range : CountsInRange p
    in_range = (counts_accepted p).0 ((refuses_if _ _).1 counted)

    pub windows_refuse : (r : Refusal) → first_fault (window_test p.windows) 0 (window_count p) ≡ Err r → verdict_of p ≡ Err r
    unfolding or_else refuse_if
    windows_refuse r e = rw (in_order, counted, e)

    pub length_refuses : first_fault (window_test p.windows) 0 (window_count p) ≡ accepted
        → (end_of (window_of p (window_count p - 1)) ≡ frame_length p → ⊥) → verdict_of p ≡ Err (WrongLength (window_count p - 1))
    unfolding or_else refuse_if
    length_refuses w e = rw (in_order, counted, w, ne_eqb _ _ e)

    -- whole rows and not too many, so that nothing is left of the rows' verdict but its fold
    rows_fold : rows_verdict p.rows ≡ first_fault (row_test p.rows) 0 (row_count p)
    rows_fold = rows-counted p.rows ((row_count_right (length p.rows)).1 (omega (arith, in_range.rows_whole), in_range.rows_at_most))

    pub rows_decide : first_fault (window_test p.windows) 0 (window_count p) ≡ accepted
        → end_of (window_of p (window_count p - 1)) ≡ frame_length p → verdict_of p ≡ rows_verdict p.rows
    unfolding or_else refuse_if
    rows_decide w e = rw (in_order, counted, w, eq-eqb _ _ e) (sym rows_fold)

  -- a refusal is the first in document 01's order
  pub refused_first : (r : Refusal) → verdict_of p ≡ Err r → FirstIn (wrong p) (order p) r
  unfolding verdict_of
  refused_first r e = first_in (wrong p) (order p) r e

  pub first_refused : (r : Refusal) → FirstIn (wrong p) (order p) r → verdict_of p ≡ Err r
  unfolding verdict_of
  first_refused r f = in_first (wrong p) (order p) r f
