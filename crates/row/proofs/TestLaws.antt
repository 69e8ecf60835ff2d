-- What the tests of a row by itself say of its numbers.
-- Assumes nothing.
use Rattle.std.proofs.Common.{◌≡◌, ℕ, ◌/◌, ◌%◌, ◌≤◌, ◌↔◌, ap, ◌∙◌, div-add-mod', arith}
use mathlib.Core.Logic.Iff
use native.Mathlib.Nat.{mul-mod_left}
use lib.Count.{ones}
use Rattle.refusal.specs.Verdict.{accepted}
use Rattle.verdict.proofs.First.{refuses_if, both_accept}
use Rattle.refusal.proofs.Tests.{equal, at_most, neither}
use Rattle.records.specs.declared.Row.{Row}
use Rattle.records.specs.Records.{max_partition}
use Rattle.row.specs.Tests.{min_size, max_access, row_fault}
use Rattle.row.specs.Addresses.{MultipleOf}

-- 6 to 9
pub row_accepted : (i : ℕ) (r : Row)
    → (row_fault i r ≡ accepted)
    ↔ ((r.partition.0 ≤ max_partition) × (((min_size ≤ r.size) × (ones r.size ≡ 1)) × ((r.base % r.size ≡ 0) × (r.access ≤ max_access))))
unfolding row_fault
row_accepted i r = simp (both_accept, refuses_if, neither, equal, at_most) Iff.rfl

pub multiple_of : (size base : ℕ) → (base % size ≡ 0) ↔ MultipleOf size base
multiple_of size base = (
  λ e. (base / size, omega (arith, div-add-mod' base size)),
  λ (k, e). ap (λ (n : ℕ). n % size) e ∙ mul-mod_left k size,
)
