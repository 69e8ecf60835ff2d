-- What the loop over the rows carries from row to row, so that a row past all before it is held against none of them. Nothing here has to be
-- believed: no public contract names it, and proofs/CarriedLaws.antt shows what each says of `row_test`.
use Rattle.std.specs.Prelude.{List, ◌⊎◌, ◌≡◌, ℕ, zero, suc, ◌+◌, ◌^◌, ◌≤◌, min, max, length, get_or}
use Rattle.refusal.specs.declared.Refusal.TheVariants.{NinthRow}
use Rattle.refusal.specs.Verdict.{Verdict}
use Rattle.refusal.specs.First.{refuse_if, or_else}
use Rattle.records.specs.Records.{max_partition, nth_row}
use Rattle.rows.specs.Rows.{rows_of}
use Rattle.rows.specs.Tests.{ninth_row, clashes_before}

-- the smallest base of the first n rows; of none, the number past every address
unfoldable pub lowest_base : List ℕ → ℕ → ℕ
lowest_base rows zero = 2 ^ 32
lowest_base rows (suc n) = min (lowest_base rows n) (nth_row rows n).base

-- their largest end; of none, 0
unfoldable pub largest_end : List ℕ → ℕ → ℕ
largest_end rows zero = 0
largest_end rows (suc n) = max (largest_end rows n) ((nth_row rows n).base + (nth_row rows n).size)

-- row i starts at or past the largest end before it, or ends at or before the smallest base
abbrev pub PastAll : List ℕ → ℕ → Type 0
PastAll rows i = (largest_end rows i ≤ (nth_row rows i).base) ⊎ ((nth_row rows i).base + (nth_row rows i).size ≤ lowest_base rows i)

-- what is carried past the first n rows: for each partition how many of them are its own, their smallest base and their largest end
pub record Carried (rows : List ℕ) (n : ℕ) (counts : List ℕ) (lowest highest : ℕ) : Type 0 where
  pub sixteen : length counts ≡ suc max_partition
  pub of_each : (q : ℕ) → q ≤ max_partition → get_or counts q 0 ≡ length (rows_of rows q n)
  pub smallest : lowest ≡ lowest_base rows n
  pub largest : highest ≡ largest_end rows n

-- what row i is refused with once the tests of the row by itself are passed: 10, then 11
abbrev pub earlier_fault : List ℕ → ℕ → Verdict
earlier_fault rows i = or_else (refuse_if (ninth_row rows i) (NinthRow i)) (clashes_before rows i)
