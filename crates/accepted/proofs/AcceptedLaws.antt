-- The verdict is 'accepted' exactly if every sentence of document 01's "Accepted exactly if" holds. Each test is turned into what it
-- says of the numbers; the folds into what they say of every window and every row.
-- Assumes nothing.
use mathlib.Core.Logic.Iff
use mathlib.Core.Logic.{◌↔◌}
use mathlib.Core.Path.{◌≡◌}
use Prim.Native.Nat.{ℕ, zero, suc, ◌-◌, ◌%◌, ◌≤◌, ◌<◌}
use native.Mathlib.Decide.{dec_lt}
use native.Mathlib.Omega.{arith}
use lib.Count.{ones}
use lib.ListN.{length}
use Rattle.refusal.specs.Verdict.{accepted}
use Rattle.verdict.specs.First.{first_fault}
use Rattle.verdict.proofs.First.{refuses_if, both_accept, each_accepts, all_accept}
use Rattle.refusal.proofs.Tests.{equal, positive, at_most}
use Rattle.records.specs.declared.Window.{Window}
use Rattle.plan.specs.Plan.{Plan, frame_length, window_count, row_count, window_of, row_of, offset_of, budget_of, owner_of}
use Rattle.records.specs.Records.{max_partition, end_of, start_of}
use Rattle.row.specs.Tests.{min_size, max_access}
use Rattle.row.specs.Addresses.{RowsClash}
use Rattle.row.proofs.ClashLaws.{turned}
use Rattle.row.proofs.Powers.{power_of_two}
use Rattle.row.proofs.TestLaws.{row_accepted, multiple_of}
use Rattle.rows.specs.Rows.{max_rows_each, rows_of}
use Rattle.plan.specs.Faults.{verdict_of}
use Rattle.rows.specs.Tests.{row_test}
use Rattle.plan.specs.Parts.{window_fault, window_test}
use Rattle.accepted.specs.Accepted as declared
use Rattle.plan.proofs.CheckLaws.{counts_test, length_test, in_order, counts_accepted}
use Rattle.rows.proofs.ClashLaws.{clashes_accepted}
use Rattle.rows.proofs.RowLaws.{eight_at_most, no_ninth}
use Rattle.rows.proofs.TestLaws.{tests_accepted}

-- 2, 3, 4
window_accepted : (i start : ℕ) (w : Window)
    → (window_fault i start w ≡ accepted) ↔ ((0 < w.budget) × ((w.offset ≡ start) × (w.owner.0 ≤ max_partition)))
unfolding window_fault
window_accepted i start w = simp (both_accept, refuses_if, equal, positive, at_most) Iff.rfl

module _ (p : Plan) where
  length_accepted : (length_test p ≡ accepted) ↔ (end_of (window_of p (window_count p - 1)) ≡ frame_length p)
  length_accepted = simp (refuses_if, equal) Iff.rfl

  -- the verdict's four parts
  parts_accepted : (verdict_of p ≡ accepted)
      ↔ ((counts_test p ≡ accepted)
      × ((first_fault (window_test p.windows) 0 (window_count p) ≡ accepted)
      × ((length_test p ≡ accepted) × (first_fault (row_test p.rows) 0 (row_count p) ≡ accepted))))
  parts_accepted = rw (in_order p) (simp both_accept Iff.rfl)

  -- what the tests of window i and of row i say, in document 01's order
  WindowRight : ℕ → Type 0
  WindowRight i = (0 < budget_of p i) × ((offset_of p i ≡ start_of p.windows i) × (owner_of p i ≤ max_partition))

  RowRight : ℕ → Type 0
  RowRight i =
      (((row_of p i).partition.0 ≤ max_partition)
      × (((min_size ≤ (row_of p i).size) × (ones (row_of p i).size ≡ 1)) × (((row_of p i).base % (row_of p i).size ≡ 0) × ((row_of p i).access ≤ max_access))))
      × ((length (rows_of p.rows (row_of p i).partition.0 i) ≡ max_rows_each → ⊥)
      × ((j : ℕ) → j < i → RowsClash (row_of p j) (row_of p i) → ⊥))

  window_right : (i : ℕ) → (window_test p.windows i ≡ accepted) ↔ WindowRight i
  unfolding window_test WindowRight
  window_right i = window_accepted i (start_of p.windows i) (window_of p i)

  row_right : (i : ℕ) → (row_test p.rows i ≡ accepted) ↔ RowRight i
  unfolding RowRight
  row_right i = simp (tests_accepted, row_accepted, clashes_accepted) Iff.rfl

  -- the verdict is 'accepted' exactly if every sentence holds
  pub accepted_all : verdict_of p ≡ accepted → declared.AcceptedIf p
  unfolding WindowRight RowRight
  accepted_all e =
      let (counts, (windows, (last, rows))) = parts_accepted.0 e in
      let c = (counts_accepted p).0 counts in
      let window : (i : ℕ) → i < window_count p → WindowRight i = λ i h. (window_right i).0 (each_accepts (window_test p.windows) 0 (window_count p) windows i (omega arith) (omega arith)) in
      let row : (i : ℕ) → i < row_count p → RowRight i = λ i h. (row_right i).0 (each_accepts (row_test p.rows) 0 (row_count p) rows i (omega arith) (omega arith)) in
      record {
        counts = c;
        first_starts_at_zero = (window 0 c.one_window_at_least).1.0;
        starts_where_one_before_ends = λ i h. (window (suc i) h).1.0;
        budgets_are_positive = λ i h. (window i h).0;
        last_end_is_frame_length = λ i h. let this : i ≡ window_count p - 1 = omega arith in rw this (length_accepted.0 last);
        owners_in_range = λ i h. (window i h).1.1;
        partitions_in_range = λ i h. (row i h).0.0;
        accesses_in_range = λ i h. (row i h).0.1.1.1;
        sizes_are_powers_of_two = λ i h. (power_of_two (row_of p i).size).0 (row i h).0.1.0.1;
        sizes_are_32_at_least = λ i h. (row i h).0.1.0.0;
        bases_are_multiples_of_sizes = λ i h. (multiple_of (row_of p i).size (row_of p i).base).0 (row i h).0.1.1.0;
        eight_rows_at_most = eight_at_most p.rows (row_count p) (λ i h. (row i h).1.0);
        no_two_rows_clash =
            λ i j hi hj apart clash.
            elim (dec_lt i j) [
              | yes before ↦ (row j hj).1.1 i before clash
              | no after ↦ (row i hi).1.1 j (omega arith) (turned clash)
            ];
      }

  pub all_accepted : declared.AcceptedIf p → verdict_of p ≡ accepted
  unfolding WindowRight RowRight
  all_accepted a =
      let last : window_count p - 1 < window_count p = omega arith in
      parts_accepted.1 (
        (counts_accepted p).1 a.counts,
        (
          all_accept (window_test p.windows) 0 (window_count p)
              (λ i low high. (window_right i).1 (a.budgets_are_positive i (omega arith), (start i (omega arith), a.owners_in_range i (omega arith)))),
          (
            length_accepted.1 (a.last_end_is_frame_length (window_count p - 1) (omega arith)),
            all_accept (row_test p.rows) 0 (row_count p)
                (λ i low high. let h : i < row_count p = omega arith in (row_right i).1 (
                  (
                    a.partitions_in_range i h,
                    (
                      (a.sizes_are_32_at_least i h, (power_of_two (row_of p i).size).1 (a.sizes_are_powers_of_two i h)),
                      ((multiple_of (row_of p i).size (row_of p i).base).1 (a.bases_are_multiples_of_sizes i h), a.accesses_in_range i h),
                    ),
                  ),
                  (
                    no_ninth p.rows (row_count p) a.eight_rows_at_most i h,
                    λ j k. a.no_two_rows_clash j i (omega arith) h (λ e. omega arith),
                  ),
                )),
          ),
        ),
      )
    where
      start : (i : ℕ) → i < window_count p → offset_of p i ≡ start_of p.windows i
      start zero h = a.first_starts_at_zero
      start (suc i) h = a.starts_where_one_before_ends i h
