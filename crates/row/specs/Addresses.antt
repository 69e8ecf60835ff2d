-- Sizes, bases and clashes of rows in terms of numbers and addresses (document 01, "A plan": "each size is a power of two", "base is a multiple of
-- size", "rows clash if they share an address and either belong to one partition or at least one has access 1"). No test stands here.
use Rattle.std.specs.Prelude.{◌≡◌, ℕ, ◌+◌, ◌*◌, ◌^◌, ◌<◌, ◌≤◌, ◌⊎◌}
use Rattle.records.specs.declared.Row.{Row}
use Rattle.records.specs.Records.{writable}

abbrev pub PowerOfTwo : ℕ → Type 0
PowerOfTwo n = (k : ℕ) × (n ≡ 2 ^ k)

abbrev pub MultipleOf : ℕ → ℕ → Type 0
MultipleOf size base = (k : ℕ) × (base ≡ k * size)

-- address x is in the row
pub record Covers (r : Row) (x : ℕ) : Type 0 where
  pub from : r.base ≤ x
  pub before : x < r.base + r.size

abbrev pub ShareAddress : Row → Row → Type 0
ShareAddress a b = (x : ℕ) × Covers a x × Covers b x

pub record RowsClash (a b : Row) : Type 0 where
  pub share : ShareAddress a b
  pub belong_or_write : (a.partition.0 ≡ b.partition.0) ⊎ ((a.access ≡ writable) ⊎ (b.access ≡ writable))
