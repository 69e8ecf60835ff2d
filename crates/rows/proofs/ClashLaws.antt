-- A fold over the rows before finds the first that clashes.
-- Assumes nothing.
use mathlib.Core.Bool.{true, false≢true}
use mathlib.Core.List.{List}
use mathlib.Core.Logic.{◌↔◌}
use mathlib.Core.Path.{◌≡◌, refl, sym, ◌∙◌}
use mathlib.Mathlib.Data.Bool.Basic.{eq-true_of_not-eq-false, eq-false_of_not-eq-true}
use Prim.Native.Nat.{ℕ, ◌<◌}
use native.Mathlib.Omega.{arith}
use Rattle.refusal.specs.declared.Refusal.TheVariants.{Clash}
use Rattle.refusal.specs.Verdict.{Verdict, accepted}
use Rattle.std.specs.Prelude.{Ok, Err}
use Rattle.verdict.specs.First.{refused}
use Rattle.verdict.proofs.First.{refuses_if, fault_found, not_refused, each_accepts, all_accept, first_refuses}
use Rattle.records.specs.Records.{nth_row}
use Rattle.row.specs.Addresses.{RowsClash}
use Rattle.row.proofs.ClashLaws.{clash_true, true_clash}
use Rattle.rows.specs.Tests.{clash_test, clashes_before}

module _ (rows : List ℕ) where
  pub clashes_accepted : (i : ℕ)
      → (clashes_before rows i ≡ accepted) ↔ ((j : ℕ) → j < i → RowsClash (nth_row rows j) (nth_row rows i) → ⊥)
  unfolding clashes_before clash_test
  clashes_accepted i = (
    λ e j h c.
        let clean = (refuses_if _ _).0 (each_accepts (clash_test rows i) 0 i e j (omega arith) (omega arith)) in
        false≢true (sym clean ∙ clash_true (nth_row rows j) (nth_row rows i) c),
    λ none. all_accept (clash_test rows i) 0 i
        (λ j low high. (refuses_if _ _).1 (eq-false_of_not-eq-true (λ t. none j (omega arith) (true_clash (nth_row rows j) (nth_row rows i) t)))),
  )

  first_clash : (i : ℕ) (v : Verdict) → clashes_before rows i ≡ v → refused v ≡ true
      → (j : ℕ) × (j < i) × RowsClash (nth_row rows j) (nth_row rows i)
  unfolding clashes_before clash_test refused
  first_clash i (Ok _) e t = absurd (false≢true t)
  first_clash i (Err r) e t =
      let (j, f) = first_refuses (clash_test rows i) 0 i r e in
      (j, omega arith, true_clash (nth_row rows j) (nth_row rows i) (fault_found _ (Clash i) r f.refuses))

  pub clash_found : (i : ℕ)
      → (refused (clashes_before rows i) ≡ true) ↔ ((j : ℕ) × (j < i) × RowsClash (nth_row rows j) (nth_row rows i))
  clash_found i = (
    first_clash i (clashes_before rows i) refl,
    λ (j, h, c). eq-true_of_not-eq-false (λ none. (clashes_accepted i).0 ((not_refused (clashes_before rows i)).0 none) j h c),
  )
