-- Each host code is below zero, and raised by 2 ^ 32 it is its word.
-- Assumes nothing.
use mathlib.Core.Bool.{Bool, true, false, cond, ◌||◌}
use mathlib.Core.Path.{◌≡◌, ap, sym, subst, ◌∙◌}
use Prim.Native.Nat.{ℕ, suc, ◌-◌, ◌^◌, ◌<◌}
use native.Mathlib.Omega.{arith}
use borrow.Author.Tests.{le-ltb}
use lib.Dec.{T, eqb}
use lib.IntN.{ℤ, pos, negsuc, ◌+ℤ◌, nat_abs}
use lib.Signed.{non_neg}
use mir.Syntax.{w32, w64}
use mir.Val.{Fits, SFits, to_z, of_z}
use mir.Facts.{to_z-of_z}
use Rattle.refusal.specs.declared.Refusal.{Refusal}
use Rattle.refusal.specs.Table.{number_of, code_of, host_code_of}
use Rattle.refusal.proofs.Tests.{passed}
use Rattle.wire.specs.Answers.{twos}

-- an i32 taken for an i64, raised, and taken for that again
abbrev wide : ℤ → ℤ
wide z = to_z w64 (of_z w64 (to_z w32 (of_z w32 z)))

abbrev raised : ℤ → ℤ
raised z = to_z w64 (of_z w64 (wide z +ℤ pos 4294967296))

pub record InWord (z : ℤ) : Type 0 where
  pub widens : SFits w64 (to_z w32 (of_z w32 z))
  pub rises : SFits w64 (wide z +ℤ pos 4294967296)
  pub above : T (non_neg (raised z)) × Fits w32 (nat_abs (raised z))
  pub word : nat_abs (raised z) ≡ twos z

below_zero : (n : ℕ) → n < 2 ^ 31 → InWord (negsuc n)
below_zero n small =
    let narrow : to_z w32 (of_z w32 (negsuc n)) ≡ negsuc n = to_z-of_z {w = w32} (record { sfits = small }) in
    let fits : SFits w64 (negsuc n) = record { sfits = omega arith } in
    let same : wide (negsuc n) ≡ negsuc n = ap (λ (z : ℤ). to_z w64 (of_z w64 z)) narrow ∙ to_z-of_z fits in
    let sum : wide (negsuc n) +ℤ pos 4294967296 ≡ pos (4294967296 - suc n) =
    ap (λ (z : ℤ). z +ℤ pos 4294967296) same ∙ passed _ _ (le-ltb 4294967296 (suc n) (omega arith)) in
    let sum_fits : SFits w64 (pos (4294967296 - suc n)) = record { sfits = omega arith } in
    let is : raised (negsuc n) ≡ pos (4294967296 - suc n) = ap (λ (z : ℤ). to_z w64 (of_z w64 z)) sum ∙ to_z-of_z sum_fits in
    record {
      widens = subst (λ (z : ℤ). SFits w64 z) (sym narrow) fits;
      rises = subst (λ (z : ℤ). SFits w64 z) (sym sum) sum_fits;
      above = subst (λ (z : ℤ). T (non_neg z) × Fits w32 (nat_abs z)) (sym is) (tt, record { fits = omega arith });
      word = ap nat_abs is;
    }

either : (b : Bool) {x y : ℤ} → InWord x → InWord y → InWord (cond b x y)
either true one other = one
either false one other = other

pub code_in_word : (r : Refusal) → InWord (host_code_of r)
unfolding code_of
code_in_word r =
    let n = number_of r in
    either (eqb n 4 || eqb n 6 || eqb n 15) (below_zero 1 (omega arith))
    (either (eqb n 10 || eqb n 16) (below_zero 27 (omega arith))
    (either (eqb n 11) (below_zero 111 (omega arith))
    (either (eqb n 13) (below_zero 10 (omega arith))
    (either (eqb n 14) (below_zero 139 (omega arith))
    (either (eqb n 17) (below_zero 8 (omega arith)) (below_zero 21 (omega arith)))))))
