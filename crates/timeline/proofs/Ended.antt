-- How many windows have ended grows by one with each window's last tick and by nothing with another; modulo the number of windows it is the window that
-- comes next. By what one tick more does to the quotient and the remainder.
-- Assumes nothing.
use mathlib.Core.Path.{◌≡◌, sym, ap, ◌∙◌}
use Prim.Native.Nat.{ℕ, zero, suc, ◌+◌, ◌*◌, ◌/◌, ◌%◌, ◌≤◌, ◌<◌}
use native.Mathlib.Nat.{add-mul, one-mul, mod-lt, mod_self, mod-eq_of_lt, mod-add-mod, zero-mod, zero-div, mul-add-mod_self_right, div-add-mod', div-eq_of_lt-le, div-eq_of_eq-mul_left}
use native.Mathlib.Numerals.{add-one}
use native.Mathlib.Decide.{dec_lt, ℕ_discrete}
use native.Mathlib.Omega.{arith}
use Rattle.timeline.specs.Windows.{Follow, Holds, window_at, windows_ended}
use Rattle.timeline.proofs.Laws.{ends_in_frame, first_holds, some_ticks, window_at_lem, exactly_one}

-- one tick more, inside the frame and at its end
module _ (N L : ℕ) where
  one_more : (N / L + 1) * L ≡ N / L * L + L
  one_more = add-mul (N / L) 1 L ∙ ap (λ (m : ℕ). N / L * L + m) (one-mul L)

  same_frame : N % L + 1 < L → (N + 1) / L ≡ N / L
  same_frame below = div-eq_of_lt-le L (omega (arith, div-add-mod' N L)) (omega (arith, div-add-mod' N L, one_more))

  same_rest : N % L + 1 < L → (N + 1) % L ≡ N % L + 1
  same_rest below = sym (mod-add-mod N L 1) ∙ mod-eq_of_lt below

  next_frame : 0 < L → N % L + 1 ≡ L → (N + 1) / L ≡ N / L + 1
  next_frame some end = div-eq_of_eq-mul_left some (omega (arith, div-add-mod' N L, one_more))

  no_rest : N % L + 1 ≡ L → (N + 1) % L ≡ 0
  no_rest end = sym (mod-add-mod N L 1) ∙ ap (λ (m : ℕ). m % L) end ∙ mod_self L

module _ {n : ℕ} {offset budget : ℕ → ℕ} {L : ℕ} (f : Follow n offset budget L) where
  abbrev ended : ℕ → ℕ
  ended N = windows_ended n offset budget L N

  -- from the quotient and the window of the remainder
  ended_is : (N q r i : ℕ) → N / L ≡ q → N % L ≡ r → i < n → Holds offset budget i r → ended N ≡ q * n + i
  unfolding windows_ended
  ended_is N q r i frame rest is_window holds =
      (λ k. frame k * n + window_at n offset budget (rest k)) ∙ ap (λ (w : ℕ). q * n + w) (window_at_lem f i r is_window holds)

  pub none_ended : ended 0 ≡ 0
  none_ended = ended_is 0 0 0 0 (zero-div L) (zero-mod L) f.one_at_least (first_holds f) ∙ omega arith

  module _ (N i : ℕ) (is_window : i < n) (holds : Holds offset budget i (N % L)) where
    so_far : ended N ≡ N / L * n + i
    so_far = ended_is N (N / L) (N % L) i (λ k. N / L) (λ k. N % L) is_window holds

    -- the window whose turn it is
    pub turn : ended N % n ≡ i
    turn = ap (λ (m : ℕ). m % n) so_far ∙ mul-add-mod_self_right (N / L) n i ∙ mod-eq_of_lt is_window

    pub window_lasts : N % L + 1 < offset i + budget i → ended (N + 1) ≡ ended N
    window_lasts more =
        let below : N % L + 1 < L = omega (arith, ends_in_frame f i is_window) in
        ended_is (N + 1) (N / L) (N % L + 1) i (same_frame N L below) (same_rest N L below) is_window
        (record { started = omega (arith, holds.started); not_ended = more })
        ∙ sym so_far

    pub window_ends : N % L + 1 ≡ offset i + budget i → ended (N + 1) ≡ ended N + 1
    window_ends last =
        elim (dec_lt (suc i) n) [
          | yes more ↦
              let starts = f.starts_where_one_before_ends i more in
              let some = f.budgets_are_positive (suc i) more in
              let below : N % L + 1 < L = omega (arith, ends_in_frame f (suc i) more) in
              ended_is (N + 1) (N / L) (N % L + 1) (suc i) (same_frame N L below) (same_rest N L below) more
              (record { started = omega arith; not_ended = omega arith })
              ∙ omega (arith, so_far)
          | no end ↦
              let all = f.last_end_is_frame_length i (omega arith) in
              let end-of-frame : N % L + 1 ≡ L = omega arith in
              ended_is (N + 1) (N / L + 1) 0 0 (next_frame N L (some_ticks f) end-of-frame) (no_rest N L end-of-frame) f.one_at_least (first_holds f)
              ∙ omega (arith, so_far, add-mul (N / L) 1 n, one-mul n)
        ]

  -- a window lasts one tick at least
  pub ended_at_most : (N : ℕ) → ended N ≤ N
  ended_at_most zero = omega (arith, none_ended)
  ended_at_most (suc N) =
      let one = exactly_one f (N % L) (mod-lt N (some_ticks f)) in
      let i = window_at n offset budget (N % L) in
      rw (sym (add-one N))
      (elim (ℕ_discrete (N % L + 1) (offset i + budget i)) [
        | yes last ↦ omega (arith, window_ends N i one.is_window one.holds last, ended_at_most N)
        | no more ↦ omega (arith, window_lasts N i one.is_window one.holds (omega (arith, one.holds.not_ended)), ended_at_most N)
      ])
