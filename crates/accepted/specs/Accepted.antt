-- The plans that are accepted, sentence by sentence (document 01, "A plan", "Accepted exactly if").
use Rattle.std.specs.Prelude.{◌≡◌, ℕ, suc, ◌≤◌, ◌<◌, length}
use Rattle.plan.specs.Plan.{Plan, frame_length, window_count, row_count, window_of, owner_of, offset_of, budget_of, row_of, CountsInRange}
use Rattle.row.specs.Tests.{min_size, max_access}
use Rattle.row.specs.Addresses.{PowerOfTwo, MultipleOf, RowsClash}
use Rattle.rows.specs.Rows.{max_rows_each, rows_of}
use Rattle.records.specs.Records.{max_partition, end_of}

pub record AcceptedIf (p : Plan) : Type 0 where
  pub counts : CountsInRange p
  pub first_starts_at_zero : offset_of p 0 ≡ 0
  pub starts_where_one_before_ends : (i : ℕ) → suc i < window_count p → offset_of p (suc i) ≡ end_of (window_of p i)
  pub budgets_are_positive : (i : ℕ) → i < window_count p → 0 < budget_of p i
  pub last_end_is_frame_length : (i : ℕ) → suc i ≡ window_count p → end_of (window_of p i) ≡ frame_length p
  pub owners_in_range : (i : ℕ) → i < window_count p → owner_of p i ≤ max_partition
  pub partitions_in_range : (i : ℕ) → i < row_count p → (row_of p i).partition.0 ≤ max_partition
  pub accesses_in_range : (i : ℕ) → i < row_count p → (row_of p i).access ≤ max_access
  pub sizes_are_powers_of_two : (i : ℕ) → i < row_count p → PowerOfTwo (row_of p i).size
  pub sizes_are_32_at_least : (i : ℕ) → i < row_count p → min_size ≤ (row_of p i).size
  pub bases_are_multiples_of_sizes : (i : ℕ) → i < row_count p → MultipleOf (row_of p i).size (row_of p i).base
  pub eight_rows_at_most : (q : ℕ) → length (rows_of p.rows q (row_count p)) ≤ max_rows_each
  pub no_two_rows_clash : (i j : ℕ) → i < row_count p → j < row_count p → (i ≡ j → ⊥) → RowsClash (row_of p i) (row_of p j) → ⊥
