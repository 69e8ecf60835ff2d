-- Two rows clash in the test exactly if they clash in addresses.
-- Assumes nothing.
use Rattle.std.proofs.Common.{◌≡◌, ℕ, ◌+◌, ◌%◌, ◌^◌, ◌<◌, ◌≤◌, true, false, not, ◌&&◌, ◌||◌, eqb, ◌⊎◌, sym, ap, inl, inr, arith, ltb-true, le-ltb, lt-ltb, eq-eqb, ne_eqb, eqb-true}
use mathlib.Core.Bool.{and-true, and-false, and-eq-true_iff, or-true}
use mathlib.Mathlib.Data.Bool.Basic.{eq-false_of_not-eq-true}
use native.Mathlib.Decide.{dec_lt, ℕ_discrete}
use borrow.Author.Tests.{not-true}
use Rattle.refusal.proofs.Tests.{positive, either}
use Rattle.records.specs.declared.Row.{Row}
use Rattle.records.specs.Records.{writable}
use Rattle.row.specs.Tests.{shares_address, clashes}
use Rattle.row.specs.Addresses.{ShareAddress, RowsClash}

-- 11: the test of two rows says whether they share an address, the greater base being such a one
shared_true : (a b : Row) → ShareAddress a b → shares_address a b ≡ true
unfolding shares_address
shared_true a b (x, in-a, in_b) =
    simp and-eq-true_iff (
      ((ap not (ne_eqb a.size 0 (λ e. omega arith)), ap not (ne_eqb b.size 0 (λ e. omega arith))), lt-ltb a.base (b.base + b.size) (omega arith)),
      lt-ltb b.base (a.base + a.size) (omega arith),
    )

true_shared : (a b : Row) → shares_address a b ≡ true → ShareAddress a b
unfolding shares_address
true_shared a b e =
    let (((a-some, b-some), a-before), b-before) = simp and-eq-true_iff at e in
    let a-positive = (positive a.size).0 (not-true (eqb a.size 0) a-some) in
    let b-positive = (positive b.size).0 (not-true (eqb b.size 0) b-some) in
    let a-starts = ltb-true a.base (b.base + b.size) a-before in
    let b-starts = ltb-true b.base (a.base + a.size) b-before in
    elim (dec_lt a.base b.base) [
      | yes later ↦ (b.base, record { from = omega arith; before = omega arith }, record { from = omega arith; before = omega arith })
      | no earlier ↦ (a.base, record { from = omega arith; before = omega arith }, record { from = omega arith; before = omega arith })
    ]

-- the distance d from b's base up to a's end, in 64 bits: past both sizes together the rows lie apart; else they share an address, unless they
-- touch or one is empty
module _ (a b : Row) (d : ℕ) where
  pub lie_apart : b.base < 2 ^ 32 → d < 2 ^ 64 → (d + b.base) % 2 ^ 64 ≡ a.base + a.size → a.size + b.size ≤ d → shares_address a b ≡ false
  lie_apart low fits wraps far = eq-false_of_not-eq-true (λ e. let (x, in-a, in_b) = true_shared a b e in omega arith)

  pub unless_touching : d + b.base ≡ a.base + a.size → d < a.size + b.size
      → not (eqb a.size 0) && not (eqb b.size 0) && not (eqb d 0) ≡ shares_address a b
  unfolding shares_address
  unless_touching exact near =
      let a-before = lt-ltb a.base (b.base + b.size) (omega arith) in
      elim (ℕ_discrete d 0) [
        | yes none ↦ simp (eq-eqb d 0 none, le-ltb b.base (a.base + a.size) (omega arith), a-before, and-true, and-false)
        | no some ↦ simp (ne_eqb d 0 some, lt-ltb b.base (a.base + a.size) (omega arith), a-before, and-true)
      ]

pub clash_true : (a b : Row) → RowsClash a b → clashes a b ≡ true
unfolding clashes
clash_true a b c = simp and-eq-true_iff (shared_true a b c.share, one c.belong_or_write)
  where
    one : (a.partition.0 ≡ b.partition.0) ⊎ ((a.access ≡ writable) ⊎ (b.access ≡ writable))
        → eqb a.partition.0 b.partition.0 || eqb a.access writable || eqb b.access writable ≡ true
    one (inl same) = simp (eq-eqb a.partition.0 b.partition.0 same)
    one (inr (inl a-writes)) = simp (eq-eqb a.access writable a-writes, or-true)
    one (inr (inr b-writes)) = simp (eq-eqb b.access writable b-writes, or-true)

pub true_clash : (a b : Row) → clashes a b ≡ true → RowsClash a b
unfolding clashes
true_clash a b e =
    let (shared, rest) = simp and-eq-true_iff at e in
    record { share = true_shared a b shared; belong_or_write = one (either (eqb a.partition.0 b.partition.0 || eqb a.access writable) (eqb b.access writable) rest) }
  where
    two : (eqb a.partition.0 b.partition.0 ≡ true) ⊎ (eqb a.access writable ≡ true)
        → (a.partition.0 ≡ b.partition.0) ⊎ ((a.access ≡ writable) ⊎ (b.access ≡ writable))
    two (inl same) = inl (eqb-true a.partition.0 b.partition.0 same)
    two (inr a-writes) = inr (inl (eqb-true a.access writable a-writes))

    one : (eqb a.partition.0 b.partition.0 || eqb a.access writable ≡ true) ⊎ (eqb b.access writable ≡ true)
        → (a.partition.0 ≡ b.partition.0) ⊎ ((a.access ≡ writable) ⊎ (b.access ≡ writable))
    one (inl first) = two (either (eqb a.partition.0 b.partition.0) (eqb a.access writable) first)
    one (inr b-writes) = inr (inr (eqb-true b.access writable b-writes))

-- of two rows it does not matter which is first
pub turned : {a b : Row} → RowsClash a b → RowsClash b a
turned c =
    let (x, in-a, in_b) = c.share in
    record {
      share = (x, in_b, in-a);
      belong_or_write =
          elim c.belong_or_write [
            | inl same ↦ inl (sym same)
            | inr writes ↦ elim writes [ inl a-writes ↦ inr (inr a-writes) | inr b-writes ↦ inr (inl b-writes) ]
          ];
    }
