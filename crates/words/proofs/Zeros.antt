-- A power of two: its trailing zeros are its exponent.
-- Assumes nothing.
use mathlib.Core.Path.{◌≡◌, refl, ap, ◌∙◌}
use Prim.Native.Nat.{ℕ, zero, suc, ◌/◌, ◌%◌, ◌^◌, ◌≤◌, ◌<◌}
use native.Mathlib.Nat.{pow-suc}
use native.Mathlib.Decide.{dec_lt}
use native.Mathlib.Omega.{arith}
use lib.Count.{count_trailing_zeros, under}
use lib.Pow.{pow-lt, pow_mono}

half : (n : ℕ) → 2 ^ suc n / 2 ≡ 2 ^ n
half n = omega (arith, pow-suc 2 n)

even : (n : ℕ) → 2 ^ suc n % 2 ≡ 0
even n = omega (arith, pow-suc 2 n)

pub zeros_of_power : (k n : ℕ) → n < k → count_trailing_zeros k (2 ^ n) ≡ n
unfolding count_trailing_zeros
zeros_of_power zero n h = absurd (omega arith)
zeros_of_power (suc k) zero h = refl
zeros_of_power (suc k) (suc n) h =
    (λ j. under (even n j) (count_trailing_zeros k (half n j))) ∙ ap suc (zeros_of_power k n (omega arith))

pub zeros_of_even : (k n : ℕ) → 0 < count_trailing_zeros (suc k) (2 ^ suc n)
unfolding count_trailing_zeros
zeros_of_even k n = rw (even n) (omega arith)

-- a power of two that is 32 or more, and one that fits in a word
pub exponent_from : (n : ℕ) → 32 ≤ 2 ^ n → 5 ≤ n
exponent_from n h =
    elim (dec_lt n 5) [
      | yes small ↦ absurd (omega (arith, pow-lt {i = n} {j = 5} small))
      | no large ↦ omega arith
    ]

pub exponent_below : (n : ℕ) → 2 ^ n < 2 ^ 32 → n < 32
exponent_below n h =
    elim (dec_lt n 32) [
      | yes small ↦ small
      | no large ↦ absurd (omega (arith, pow_mono {i = 32} {j = n} (omega arith)))
    ]
