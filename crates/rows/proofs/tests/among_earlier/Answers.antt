-- What was counted, was counted for row i's partition; a row past all before it clashes with none, any other is held against each.
use Rattle.std.proofs.Common.{◌≡◌, ℕ, List, length, inl, inr, sym, ap, ◌∙◌, arith}
use Rattle.records.specs.declared.Row.{Row}
use Rattle.records.specs.Records.{nth_row}
use Rattle.rows.specs.Rows.{max_rows_each, rows_of}
use Rattle.rows.proofs.CarriedLaws.{past_all, row_may_clash}
use Rattle.rows.proofs.tests.among_earlier.Goals as goal

-- so, where it is not eight, row i is no ninth
few : (rows : List ℕ) (i earlier : ℕ) (b : Row) → earlier ≡ length (rows_of rows b.partition.0 i) → b ≡ nth_row rows i → (earlier ≡ max_rows_each → ⊥)
    → length (rows_of rows (nth_row rows i).partition.0 i) ≡ max_rows_each → ⊥
few rows i earlier b counted same not_eight n = not_eight (counted ∙ ap (λ (r : Row). length (rows_of rows r.partition.0 i)) same ∙ n)

pub returns-then-highest-base : goal.returns-then-highest-base
returns-then-highest-base c =
    let base = ap (λ (b : Row). b.base) c.requires.b_value in
    sym (row_may_clash _ _ (few _ _ _ _ c.requires.earlier_value c.requires.b_value (λ e. omega arith)) ∙ past_all _ _ (inl (omega arith)))

pub returns-then-end-lowest : goal.returns-then-end-lowest
returns-then-end-lowest c =
    let base = ap (λ (b : Row). b.base) c.requires.b_value in
    let size = ap (λ (b : Row). b.size) c.requires.b_value in
    sym (row_may_clash _ _ (few _ _ _ _ c.requires.earlier_value c.requires.b_value (λ e. omega arith)) ∙ past_all _ _ (inr (omega arith)))

pub returns : goal.returns
returns c = c.clashes_before.ensures ∙ sym (row_may_clash _ _ (few _ _ _ _ c.requires.earlier_value c.requires.b_value (λ e. omega arith)))
