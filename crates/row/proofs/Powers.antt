-- A number has exactly one bit set exactly if it is a power of two: its lowest bit is the only one, or its half is such a number.
-- Assumes nothing.
use Rattle.std.proofs.Common.{◌≡◌, ℕ, zero, suc, ◌*◌, ◌/◌, ◌%◌, ◌^◌, ◌≤◌, ◌↔◌, sym, ap, ◌∙◌, add-zero, one-mul, pow-suc, arith, pow_pos}
use native.Mathlib.Decide.{ℕ_discrete}
use lib.Count.{ones, ones_step, ones_cat}
use Rattle.row.specs.Addresses.{PowerOfTwo}

-- by induction on a bound d
none_set : (d n : ℕ) → n ≤ d → ones n ≡ 0 → n ≡ 0
none_set zero n h e = omega arith
none_set (suc d) n h e =
    elim (ℕ_discrete n 0) [
      | yes nothing ↦ nothing
      | no some ↦
          let half = none_set d (n / 2) (omega arith) (omega (arith, ones_step n)) in
          omega (arith, ones_step n)
    ]

one_set : (d n : ℕ) → n ≤ d → ones n ≡ 1 → PowerOfTwo n
unfolding ones
one_set zero n h e = let nothing : n ≡ 0 = omega arith in let z : ◌≡◌ {A = ℕ} 0 1 = sym (ap ones nothing) ∙ e in absurd (omega arith)
one_set (suc d) n h e =
    elim (ℕ_discrete (n % 2) 0) [
      | yes even ↦
          let (k, half) = one_set d (n / 2) (omega arith) (omega (arith, ones_step n)) in
          (suc k, omega (arith, pow-suc 2 k))
      | no odd ↦
          let half = none_set n (n / 2) (omega arith) (omega (arith, ones_step n)) in
          (0, omega arith)
    ]

one_bit : (k : ℕ) → ones (2 ^ k) ≡ 1
unfolding ones
one_bit k = ap ones (sym (add-zero (1 * 2 ^ k) ∙ one-mul (2 ^ k))) ∙ ones_cat k 1 0 (pow_pos k)

pub power_of_two : (n : ℕ) → (ones n ≡ 1) ↔ PowerOfTwo n
power_of_two n = (one_set n n (omega arith), λ (k, e). ap ones e ∙ one_bit k)
