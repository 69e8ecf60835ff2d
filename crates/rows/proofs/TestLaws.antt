-- What the tests of a row say of its numbers.
-- Assumes nothing.
use mathlib.Core.Bool.{true, false}
use mathlib.Core.List.{List}
use mathlib.Core.Logic.Iff
use mathlib.Core.Logic.{◌↔◌}
use mathlib.Core.Path.{◌≡◌}
use Prim.Native.Nat.{ℕ, ◌/◌, ◌%◌, ◌≤◌}
use lib.ListN.{length}
use Rattle.refusal.specs.declared.Refusal.TheVariants.{Counts}
use Rattle.refusal.specs.Verdict.{accepted}
use Rattle.std.specs.Prelude.{Err}
use Rattle.refusal.specs.First.{refuse_if, or_else}
use Rattle.verdict.specs.First.{first_fault}
use Rattle.verdict.proofs.First.{refuses_if, both_accept}
use Rattle.refusal.proofs.Tests.{equal, differs, at_most, neither}
use Rattle.records.specs.Records.{nth_row}
use Rattle.row.specs.Tests.{row_fault}
use Rattle.rows.specs.Rows.{max_rows, max_rows_each, rows_of}
use Rattle.rows.specs.Tests.{wrong_row_count, clashes_before, row_test, rows_verdict}

module _ (rows : List ℕ) where
  -- all tests of row i
  pub tests_accepted : (i : ℕ)
      → (row_test rows i ≡ accepted)
      ↔ ((row_fault i (nth_row rows i) ≡ accepted)
      × ((length (rows_of rows (nth_row rows i).partition.0 i) ≡ max_rows_each → ⊥)
      × (clashes_before rows i ≡ accepted)))
  unfolding row_test
  tests_accepted i = simp (both_accept, refuses_if, differs) Iff.rfl

-- whole rows, and not too many
pub row_count_right : (numbers : ℕ) → (wrong_row_count numbers ≡ false) ↔ ((numbers % 4 ≡ 0) × (numbers / 4 ≤ max_rows))
unfolding wrong_row_count
row_count_right numbers = simp (neither, equal, at_most) Iff.rfl

-- the two ways in which the rows' verdict is decided
module _ (rows : List ℕ) where
  pub miscounted : wrong_row_count (length rows) ≡ true → rows_verdict rows ≡ Err Counts
  unfolding rows_verdict or_else refuse_if
  miscounted e = rw e

  pub counted : wrong_row_count (length rows) ≡ false → rows_verdict rows ≡ first_fault (row_test rows) 0 (length rows / 4)
  unfolding rows_verdict or_else refuse_if
  counted e = rw e
