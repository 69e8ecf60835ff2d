-- The rows of one partition: how their number grows, row by row.
-- Assumes nothing.
use mathlib.Core.Bool.{Bool, true, false, cond}
use mathlib.Core.List.{List, [], ◌∷◌}
use mathlib.Core.Path.{◌≡◌, refl, ap, ◌∙◌}
use Prim.Native.Nat.{ℕ, zero, suc, ◌+◌, ◌≤◌, ◌<◌}
use native.Mathlib.Nat.{add-zero}
use native.Mathlib.Decide.{ℕ_discrete}
use native.Mathlib.Omega.{arith}
use borrow.Author.Tests.{eq-eqb, ne_eqb}
use lib.Dec.{eqb}
use lib.ListN.{length, length-append}
use Rattle.refusal.proofs.Tests.{either_at_most}
use Rattle.records.specs.declared.Row.{Row}
use Rattle.rows.specs.Rows.{max_rows_each, rows_of}
use Rattle.records.specs.Records.{nth_row}
use Rattle.rows.specs.Tests.{one_if_own}

one_or_none : (b : Bool) (r : Row) → length (cond b (r ∷ []) []) ≡ cond b 1 0
one_or_none true r = refl
one_or_none false r = refl

module _ (rows : List ℕ) (q : ℕ) where
  pub count_step : (n : ℕ) → length (rows_of rows q (suc n)) ≡ length (rows_of rows q n) + one_if_own (nth_row rows n) q
  unfolding rows_of
  count_step n = simp (length-append, one_or_none)

  own_at_most : (n : ℕ) → one_if_own (nth_row rows n) q ≤ 1
  own_at_most n = either_at_most (eqb (nth_row rows n).partition.0 q) (omega arith) (omega arith)

  pub count_le : (n : ℕ) → length (rows_of rows q n) ≤ n
  unfolding rows_of
  count_le zero = omega arith
  count_le (suc n) = omega (arith, count_step n, count_le n, own_at_most n)

  pub count_mono : (m n : ℕ) → m ≤ n → length (rows_of rows q m) ≤ length (rows_of rows q n)
  count_mono m zero h = let same : m ≡ 0 = omega arith in rw same (omega arith)
  count_mono m (suc n) h =
      elim (ℕ_discrete m (suc n)) [
        | yes same ↦ rw same (omega arith)
        | no below ↦ omega (arith, count_step n, count_mono m n (omega arith))
      ]

  pub count_own : (n : ℕ) → (nth_row rows n).partition.0 ≡ q → length (rows_of rows q (suc n)) ≡ length (rows_of rows q n) + 1
  count_own n e = count_step n ∙ ap (λ (b : Bool). length (rows_of rows q n) + cond b 1 0) (eq-eqb _ _ e)

  pub count_other : (n : ℕ) → ((nth_row rows n).partition.0 ≡ q → ⊥) → length (rows_of rows q (suc n)) ≡ length (rows_of rows q n)
  count_other n e = count_step n ∙ ap (λ (b : Bool). length (rows_of rows q n) + cond b 1 0) (ne_eqb _ _ e) ∙ add-zero (length (rows_of rows q n))

module _ (rows : List ℕ) where
  -- 10: no row among the first m is a ninth exactly if no partition has over eight of them
  pub eight_at_most : (m : ℕ) → ((i : ℕ) → i < m → length (rows_of rows (nth_row rows i).partition.0 i) ≡ max_rows_each → ⊥)
      → (q : ℕ) → length (rows_of rows q m) ≤ max_rows_each
  unfolding rows_of
  eight_at_most zero none q = omega arith
  eight_at_most (suc m) none q =
      let before = eight_at_most m (λ i h. none i (omega arith)) q in
      elim (ℕ_discrete (nth_row rows m).partition.0 q) [
        | yes own ↦
            let not_eight : length (rows_of rows q m) ≡ max_rows_each → ⊥ = rw own at (none m (omega arith)) in
            omega (arith, count_own rows q m own)
        | no other ↦ omega (arith, count_other rows q m other)
      ]

  pub no_ninth : (m : ℕ) → ((q : ℕ) → length (rows_of rows q m) ≤ max_rows_each)
      → (i : ℕ) → i < m → length (rows_of rows (nth_row rows i).partition.0 i) ≡ max_rows_each → ⊥
  no_ninth m eight i h e =
      let q = (nth_row rows i).partition.0 in
      omega (arith, eight q, count_own rows q i refl, count_mono rows q (suc i) m (omega arith))
