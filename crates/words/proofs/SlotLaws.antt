-- Slot k: the one law of slots that have rows and slots that are free; the addresses of a row's slot.
-- Assumes nothing.
use mathlib.Core.Bool.{Bool, true, cond, and-eq-true_iff}
use mathlib.Core.List.{List}
use mathlib.Core.Logic.{◌↔◌}
use mathlib.Core.Path.{◌≡◌, sym, ap, ◌∙◌}
use Prim.Native.Nat.{ℕ, ◌+◌, ◌≤◌, ◌<◌}
use native.Mathlib.Decide.{dec_lt}
use native.Mathlib.Omega.{arith}
use borrow.Author.Tests.{leb-true, ltb-true, le-leb, lt-ltb, le-ltb}
use lib.ListN.{length, get_or}
use Rattle.records.specs.declared.Row.{Row}
use Rattle.row.specs.Addresses.{Covers}
use Rattle.rows.specs.Rows.{max_rows_each}
use Rattle.own.specs.Own.{no_row, packed}
use Rattle.own.proofs.PaddedLaws.{padded_at}
use Rattle.words.specs.Slots.{row_slot, at_slot}

pub row_covers : (r : Row) (x : ℕ) → ((row_slot r).covers x ≡ true) ↔ Covers r x
row_covers r x = (
  λ e.
      let (from, before) = (and-eq-true_iff _ _).0 e in
      record { from = leb-true r.base x from; before = ltb-true x (r.base + r.size) before },
  λ c. (and-eq-true_iff _ _).1 (le-leb _ _ c.from, lt-ltb _ _ c.before),
)

module _ {A : Type 0} (row : Row → A) (free : A) where
  pub filled_slot : (count : ℕ) (rows : List Row) (k : ℕ) → k < count → at_slot row free count rows k ≡ row (get_or rows k no_row)
  unfolding at_slot
  filled_slot count rows k h = ap (λ (b : Bool). cond b (row (get_or rows k no_row)) free) (lt-ltb k count h)

  pub free_slot : (count : ℕ) (rows : List Row) (k : ℕ) → count ≤ k → at_slot row free count rows k ≡ free
  unfolding at_slot
  free_slot count rows k h = ap (λ (b : Bool). cond b (row (get_or rows k no_row)) free) (le-ltb k count h)

  -- rows in an array give the same slots as rows in a list
  pub packed_slot : (own : List Row) (k : ℕ) → at_slot row free (packed own).count (packed own).rows k ≡ at_slot row free (length own) own k
  unfolding packed
  packed_slot own k =
      elim (dec_lt k (length own)) [
        | yes filled ↦
            filled_slot (length own) (packed own).rows k filled ∙ ap row (padded_at max_rows_each no_row own k filled)
            ∙ sym (filled_slot (length own) own k filled)
        | no past ↦
            free_slot (length own) (packed own).rows k (omega arith) ∙ sym (free_slot (length own) own k (omega arith))
      ]
