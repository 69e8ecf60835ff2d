-- The rows of a plan: 0 to 128 of them, at most 8 for a partition (document 01, "A plan").
use Rattle.std.specs.Prelude.{cond, List, [], ◌∷◌, ◌++◌, ℕ, zero, suc, eqb}
use Rattle.records.specs.declared.Row.{Row}
use Rattle.records.specs.Records.{nth_row}

abbrev pub max_rows : ℕ
max_rows = 128

-- rows of one partition
abbrev pub max_rows_each : ℕ
max_rows_each = 8

-- the rows of partition q among the first n, in table order
unfoldable pub rows_of : List ℕ → ℕ → ℕ → List Row
rows_of rows q zero = []
rows_of rows q (suc n) = rows_of rows q n ++ cond (eqb (nth_row rows n).partition.0 q) (nth_row rows n ∷ []) []
