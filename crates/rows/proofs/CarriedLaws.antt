-- What the loop over the rows carries says of the next row: its partition's count is the number of its rows, and a row past all before it shares no
-- address with any of them. By induction on the number of rows.
-- Assumes nothing.
use mathlib.Core.List.{List}
use mathlib.Core.Logic.{inl, inr}
use mathlib.Core.Path.{◌≡◌, refl, sym, ap, ◌∙◌}
use Prim.Native.Nat.{ℕ, zero, suc, ◌+◌, ◌^◌, ◌≤◌, ◌<◌, min, max}
use native.Mathlib.Numerals.{add-one}
use native.Mathlib.Decide.{ℕ_discrete}
use native.Mathlib.Omega.{arith}
use borrow.Author.Tests.{eq-eqb, ne_eqb}
use lib.ListN.{length, get_or, set, replicate, length-set, length-replicate, get_or-replicate}
use lib.Seq.{get_or-set_same, get_or-set_other}
use Rattle.refusal.specs.declared.Refusal.{Refusal}
use Rattle.refusal.specs.declared.Refusal.TheVariants.{NinthRow}
use Rattle.refusal.specs.Verdict.{accepted}
use Rattle.std.specs.Prelude.{Err}
use Rattle.refusal.specs.First.{refuse_if, or_else}
use Rattle.records.specs.declared.Row.{Row}
use Rattle.records.specs.Records.{max_partition, nth_row}
use Rattle.row.specs.Tests.{row_fault}
use Rattle.row.specs.Addresses.{ShareAddress}
use Rattle.rows.specs.Rows.{max_rows_each, rows_of}
use Rattle.rows.specs.Tests.{clashes_before, row_test}
use Rattle.rows.specs.Carried.{lowest_base, largest_end, PastAll, Carried, earlier_fault}
use Rattle.rows.proofs.ClashLaws.{clashes_accepted}
use Rattle.rows.proofs.RowLaws.{count_own, count_other}

module _ (rows : List ℕ) where
  lowest_at_most : (n j : ℕ) → j < n → lowest_base rows n ≤ (nth_row rows j).base
  unfolding lowest_base
  lowest_at_most zero j h = absurd (omega arith)
  lowest_at_most (suc n) j h =
      elim (ℕ_discrete j n) [
        | yes last ↦ rw last (omega arith)
        | no earlier ↦ omega (arith, lowest_at_most n j (omega arith))
      ]

  largest_at_least : (n j : ℕ) → j < n → (nth_row rows j).base + (nth_row rows j).size ≤ largest_end rows n
  unfolding largest_end
  largest_at_least zero j h = absurd (omega arith)
  largest_at_least (suc n) j h =
      elim (ℕ_discrete j n) [
        | yes last ↦ rw last (omega arith)
        | no earlier ↦ omega (arith, largest_at_least n j (omega arith))
      ]

  -- nothing before shares an address
  nothing_shared : (i : ℕ) → PastAll rows i → (j : ℕ) → j < i → ShareAddress (nth_row rows j) (nth_row rows i) → ⊥
  nothing_shared i (inl above) j h (x, in-j, in-i) = omega (arith, largest_at_least i j h)
  nothing_shared i (inr below) j h (x, in-j, in-i) = omega (arith, lowest_at_most i j h)

  pub past_all : (i : ℕ) → PastAll rows i → clashes_before rows i ≡ accepted
  past_all i past = (clashes_accepted rows i).1 (λ j h c. nothing_shared i past j h c.share)

  -- before the first row
  pub none_carried : Carried rows 0 (replicate (suc max_partition) 0) (2 ^ 32) 0
  unfolding rows_of lowest_base largest_end
  none_carried =
      record {
        sixteen = length-replicate {A = ℕ} (suc max_partition) 0;
        of_each = λ q known. get_or-replicate {A = ℕ} (suc max_partition) q 0 0 (omega arith);
        smallest = refl;
        largest = refl;
      }

  -- past one row more, r
  module _ (n : ℕ) (r : Row) (this : r ≡ nth_row rows n) (known : r.partition.0 ≤ max_partition) (counts : List ℕ) (lowest highest : ℕ) (c : Carried rows n counts lowest highest) where
    abbrev p : ℕ
    p = r.partition.0

    -- the count is the length of `rows_of`
    count_kept : (q : ℕ) → q ≤ max_partition → get_or (set counts p (get_or counts p 0 + 1)) q 0 ≡ length (rows_of rows q (suc n))
    count_kept q q-known =
        let owner : (nth_row rows n).partition.0 ≡ p = ap (λ (r : Row). r.partition.0) (sym this) in
        elim (ℕ_discrete q p) [
          | yes own ↦
              rw own
              (get_or-set_same counts p (get_or counts p 0 + 1) 0 (omega (arith, c.sixteen))
              ∙ ap (λ (m : ℕ). m + 1) (c.of_each p known)
              ∙ sym (count_own rows p n owner))
          | no other ↦
              get_or-set_other counts p q (get_or counts p 0 + 1) 0 other
              ∙ c.of_each q q-known
              ∙ sym (count_other rows q n (λ e. other (sym e ∙ owner)))
        ]

    pub one_carried : (lower higher : ℕ) → lower ≡ min lowest r.base → higher ≡ max highest (r.base + r.size)
        → Carried rows (n + 1) (set counts p (get_or counts p 0 + 1)) lower higher
    unfolding lowest_base largest_end
    one_carried lower higher min-of max_of =
        rw (add-one n)
        (record {
          sixteen = length-set counts p (get_or counts p 0 + 1) ∙ c.sixteen;
          of_each = count_kept;
          smallest = min-of ∙ (λ j. min (c.smallest j) (this j).base);
          largest = max_of ∙ (λ j. max (c.largest j) ((this j).base + (this j).size));
        })

-- the tests of row i: the row by itself, then against those before it
module _ (rows : List ℕ) (i : ℕ) where
  pub row_refused : (r : Refusal) → row_fault i (nth_row rows i) ≡ Err r → row_test rows i ≡ Err r
  unfolding row_test or_else
  row_refused r e = rw e

  pub row_passes : row_fault i (nth_row rows i) ≡ accepted → row_test rows i ≡ earlier_fault rows i
  unfolding row_test or_else
  row_passes e = rw e

  pub row_is_ninth : length (rows_of rows (nth_row rows i).partition.0 i) ≡ max_rows_each → earlier_fault rows i ≡ Err (NinthRow i)
  unfolding or_else refuse_if
  row_is_ninth n = rw (eq-eqb _ _ n)

  pub row_may_clash : (length (rows_of rows (nth_row rows i).partition.0 i) ≡ max_rows_each → ⊥) → earlier_fault rows i ≡ clashes_before rows i
  unfolding or_else refuse_if
  row_may_clash n = rw (ne_eqb _ _ n)
