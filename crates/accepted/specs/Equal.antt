-- Two plans that are equal in windows, frame length and, in order, all rows but those of partition q (document 01, "Region words", the last
-- sentence).
use Rattle.std.specs.Prelude.{cond, List, [], ◌∷◌, ◌++◌, ◌≡◌, ℕ, zero, suc, eqb}
use Rattle.records.specs.declared.Row.{Row}
use Rattle.plan.specs.Plan.{Plan, row_count}
use Rattle.records.specs.Records.{nth_row}

-- the rows of all partitions but q among the first n, in table order
unfoldable pub others_of : List ℕ → ℕ → ℕ → List Row
others_of rows q zero = []
others_of rows q (suc n) = others_of rows q n ++ cond (eqb (nth_row rows n).partition.0 q) [] (nth_row rows n ∷ [])

pub record EqualBut (q : ℕ) (p p' : Plan) : Type 0 where
  pub frame : p.frame ≡ p'.frame
  pub windows : p.windows ≡ p'.windows
  pub other_rows : others_of p.rows q (row_count p) ≡ others_of p'.rows q (row_count p')
