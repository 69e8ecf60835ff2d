-- The rows of one partition do not depend on another's: they can be picked out of the rows of all partitions but that one.
-- Assumes nothing.
use mathlib.Core.Bool.{Bool, cond}
use mathlib.Core.List.{List, [], ◌∷◌, ◌++◌, append-nil, append_assoc}
use mathlib.Core.Path.{◌≡◌, refl, sym, ap, ◌∙◌}
use Prim.Native.Nat.{ℕ, zero, suc}
use native.Mathlib.Decide.{ℕ_discrete}
use borrow.Author.Tests.{eq-eqb, ne_eqb}
use lib.Dec.{eqb}
use Rattle.records.specs.declared.Row.{Row}
use Rattle.plan.specs.Plan.{Plan, row_count, own_rows}
use Rattle.records.specs.Records.{nth_row}
use Rattle.rows.specs.Rows.{rows_of}
use Rattle.accepted.specs.Equal.{others_of, EqualBut}

-- those of partition q in a list of rows
only : ℕ → List Row → List Row
only q [] = []
only q (r ∷ rows) = cond (eqb r.partition.0 q) (r ∷ []) [] ++ only q rows

only_both : (q : ℕ) (l m : List Row) → only q (l ++ m) ≡ only q l ++ only q m
unfolding only
only_both q [] m = refl
only_both q (r ∷ l) m =
    ap (λ (rows : List Row). cond (eqb r.partition.0 q) (r ∷ []) [] ++ rows) (only_both q l m)
    ∙ sym (append_assoc (cond (eqb r.partition.0 q) (r ∷ []) []) (only q l) (only q m))

module _ (rows : List ℕ) (q other : ℕ) (apart : other ≡ q → ⊥) where
  picked : (n : ℕ) → only other (others_of rows q n) ≡ rows_of rows other n
  unfolding only others_of rows_of
  picked zero = refl
  picked (suc n) =
      only_both other (others_of rows q n) (cond (eqb (nth_row rows n).partition.0 q) [] (nth_row rows n ∷ []))
      ∙ (λ k. picked n k ++ last k)
    where
      last : only other (cond (eqb (nth_row rows n).partition.0 q) [] (nth_row rows n ∷ []))
          ≡ cond (eqb (nth_row rows n).partition.0 other) (nth_row rows n ∷ []) []
      last =
          elim (ℕ_discrete (nth_row rows n).partition.0 q) [
            | yes left_out ↦
                ap (λ (b : Bool). only other (cond b [] (nth_row rows n ∷ []))) (eq-eqb _ _ left_out)
                ∙ ap (λ (b : Bool). cond b (nth_row rows n ∷ []) []) (sym (ne_eqb _ _ (λ e. apart (sym e ∙ left_out))))
            | no stays ↦
                ap (λ (b : Bool). only other (cond b [] (nth_row rows n ∷ []))) (ne_eqb _ _ stays)
                ∙ append-nil (cond (eqb (nth_row rows n).partition.0 other) (nth_row rows n ∷ []) [])
          ]

-- "equal ... in order, all rows but those of partition q": then every other partition has equal rows
pub equal_rows : {q : ℕ} {p p' : Plan} → EqualBut q p p' → (other : ℕ) → (other ≡ q → ⊥) → own_rows p other ≡ own_rows p' other
equal_rows {q} {p} {p'} same other apart =
    sym (picked p.rows q other apart (row_count p))
    ∙ ap (only other) same.other_rows
    ∙ picked p'.rows q other apart (row_count p')
