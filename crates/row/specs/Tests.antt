-- What is wrong with a row by itself, 6 to 9, and when two rows clash, as tests (document 01, "A plan", "Refusal numbers and their place"). Sums are
-- whole numbers, so no sum wraps.
use Rattle.std.specs.Prelude.{ℕ, ◌+◌, ◌%◌, Bool, not, ◌&&◌, ◌||◌, ◌==◌, count_ones, nat_lt}
use Rattle.refusal.specs.declared.Refusal.TheVariants.{UnknownPartition, BadSize, BadBase, BadAccess}
use Rattle.refusal.specs.Verdict.{Verdict}
use Rattle.refusal.specs.First.{refuse_if, or_else}
use Rattle.records.specs.declared.Row.{Row}
use Rattle.records.specs.Records.{max_partition, writable}

abbrev pub min_size : ℕ
min_size = 32

abbrev pub max_access : ℕ
max_access = 2

-- 6, 7, 8, 9
abbrev pub unknown_partition : Row → Bool
unknown_partition r = nat_lt max_partition r.partition.0

abbrev pub bad_size : Row → Bool
bad_size r = nat_lt r.size min_size || not (count_ones r.size == 1)

abbrev pub bad_base : Row → Bool
bad_base r = not (r.base % r.size == 0)

abbrev pub bad_access : Row → Bool
bad_access r = nat_lt max_access r.access

-- in their order, of row i
unfoldable pub row_fault : ℕ → Row → Verdict
row_fault i r =
    or_else (refuse_if (unknown_partition r) (UnknownPartition i))
    (or_else (refuse_if (bad_size r) (BadSize i)) (or_else (refuse_if (bad_base r) (BadBase i)) (refuse_if (bad_access r) (BadAccess i))))

-- 11: neither row is empty and each starts before the other ends; and one partition, or a writable one
unfoldable pub shares_address : Row → Row → Bool
shares_address a b = not (a.size == 0) && not (b.size == 0) && nat_lt a.base (b.base + b.size) && nat_lt b.base (a.base + a.size)

unfoldable pub clashes : Row → Row → Bool
clashes a b = shares_address a b && (a.partition.0 == b.partition.0 || a.access == writable || b.access == writable)
