-- What is wrong with the rows of a plan: 6 to 11, as tests, and the order "rows upward, each 6 to 11" (document 01, "Refusal numbers and their
-- place"). A `..Test` is of the row at a place of a list.
use Rattle.std.specs.Prelude.{Bool, not, cond, ◌||◌, List, ℕ, ◌/◌, ◌%◌, eqb, ltb, length}
use Rattle.refusal.specs.declared.Refusal.TheVariants.{Counts, NinthRow, Clash}
use Rattle.refusal.specs.Verdict.{Verdict}
use Rattle.refusal.specs.First.{refuse_if, or_else}
use Rattle.verdict.specs.First.{first_fault}
use Rattle.records.specs.declared.Row.{Row}
use Rattle.records.specs.Records.{nth_row}
use Rattle.row.specs.Tests.{clashes, row_fault}
use Rattle.rows.specs.Rows.{max_rows, max_rows_each, rows_of}

-- 1, of a list of so many numbers: it ends inside a row, or holds too many
unfoldable pub wrong_row_count : ℕ → Bool
wrong_row_count numbers = not (eqb (numbers % 4) 0) || ltb max_rows (numbers / 4)

-- 10: eight rows of its partition stand before row i
abbrev pub ninth_row : List ℕ → ℕ → Bool
ninth_row rows i = eqb (length (rows_of rows (nth_row rows i).partition.0 i)) max_rows_each

-- 11: row i against an earlier row j; then against each row before it, from row 0 on
unfoldable pub clash_test : List ℕ → ℕ → ℕ → Verdict
clash_test rows i j = refuse_if (clashes (nth_row rows j) (nth_row rows i)) (Clash i)

unfoldable pub clashes_before : List ℕ → ℕ → Verdict
clashes_before rows i = first_fault (clash_test rows i) 0 i

-- what a row adds to the count of a partition's rows
abbrev pub one_if_own : Row → ℕ → ℕ
one_if_own r q = cond (eqb r.partition.0 q) 1 0

-- 6 to 11 of row i: by itself, then against those before it
unfoldable pub row_test : List ℕ → ℕ → Verdict
row_test rows i =
    or_else (row_fault i (nth_row rows i)) (or_else (refuse_if (ninth_row rows i) (NinthRow i)) (clashes_before rows i))

-- what `check` answers of the rows by themselves
unfoldable pub rows_verdict : List ℕ → Verdict
rows_verdict rows = or_else (refuse_if (wrong_row_count (length rows)) Counts) (first_fault (row_test rows) 0 (length rows / 4))
