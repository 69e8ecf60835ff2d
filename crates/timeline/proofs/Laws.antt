-- Windows that follow one another. A window ends before any later one starts, by induction on the later one; what else is
-- said here is arithmetic on that.
-- Assumes nothing.
use mathlib.Core.Bool.{true, false, cond, ◌&&◌, and-eq-true_iff}
use mathlib.Mathlib.Data.Bool.Basic.{eq-false_of_not-eq-true}
use mathlib.Core.Path.{◌≡◌, refl, sym, ap, ◌∙◌}
use Prim.Native.Nat.{ℕ, zero, suc, ◌+◌, ◌%◌, ◌≤◌, ◌<◌}
use native.Mathlib.Nat.{mod-lt, mod_self, mod-add-mod, mod-eq_of_lt}
use native.Mathlib.Decide.{dec_lt, ℕ_discrete}
use native.Mathlib.Omega.{arith}
use borrow.Author.Tests.{le-leb, lt-leb, lt-ltb, le-ltb, leb-true, ltb-true}
use lib.Dec.{leb, ltb}
use Rattle.timeline.specs.Windows.{Follow, Holds, OnlyWindow, holdsb, window_at, next_of, next_window, next_tick}

-- the test and the statement agree
pub holdsb_true : (offset budget : ℕ → ℕ) (i t : ℕ) → Holds offset budget i t → holdsb offset budget i t ≡ true
unfolding holdsb
holdsb_true offset budget i t h = rw (le-leb (offset i) t h.started, lt-ltb t (offset i + budget i) h.not_ended)

pub true_holds : (offset budget : ℕ → ℕ) (i t : ℕ) → holdsb offset budget i t ≡ true → Holds offset budget i t
unfolding holdsb
true_holds offset budget i t e =
    let p = (and-eq-true_iff (leb (offset i) t) (ltb t (offset i + budget i))).0 e in
    record { started = leb-true (offset i) t p.0; not_ended = ltb-true t (offset i + budget i) p.1 }

pub not_started : (offset budget : ℕ → ℕ) (i t : ℕ) → t < offset i → holdsb offset budget i t ≡ false
unfolding holdsb
not_started offset budget i t h = rw (lt-leb (offset i) t h)

pub if_started : (offset budget : ℕ → ℕ) (i t : ℕ) → offset i ≤ t → holdsb offset budget i t ≡ ltb t (offset i + budget i)
unfolding holdsb
if_started offset budget i t h = rw (le-leb (offset i) t h)

-- the one window among the first n that holds t is what `window_at` finds
only_found : (n : ℕ) (offset budget : ℕ → ℕ) (t i : ℕ) → i < n → Holds offset budget i t
    → ((j : ℕ) → j < n → Holds offset budget j t → j ≡ i) → window_at n offset budget t ≡ i
unfolding window_at
only_found zero offset budget t i k h only = omega arith
only_found (suc n) offset budget t i k h only =
    elim (ℕ_discrete i n) [
      | yes here ↦ rw (holdsb_true offset budget n t (rw here at h)) (sym here)
      | no before ↦
          rw (eq-false_of_not-eq-true (λ e. before (sym (only n (omega arith) (true_holds offset budget n t e)))))
          (only_found n offset budget t i (omega arith) h (λ j l. only j (omega arith)))
    ]

-- the next window and the next tick, by whether there is one
pub next_below : (count n : ℕ) → n + 1 < count → next_of count n ≡ n + 1
unfolding next_of
next_below count n h = rw (lt-ltb (suc n) count (omega arith)) (omega arith)

pub next_past : (count n : ℕ) → count ≤ n + 1 → next_of count n ≡ 0
unfolding next_of
next_past count n h = rw (le-ltb (suc n) count (omega arith))

module _ {n : ℕ} {offset budget : ℕ → ℕ} {frame_length : ℕ} (f : Follow n offset budget frame_length) where
  pub ends_before : (i j : ℕ) → i < j → j < n → offset i + budget i ≤ offset j
  ends_before i zero h k = omega arith
  ends_before i (suc j) h k =
      elim (dec_lt i j) [
        | yes before ↦ omega (arith, ends_before i j before (omega arith), f.starts_where_one_before_ends j k)
        | no here ↦ let same : i ≡ j = omega arith in rw same (omega (arith, f.starts_where_one_before_ends j k))
      ]

  pub offsets_increase : (i j : ℕ) → i < j → j < n → offset i < offset j
  offsets_increase i j h k = omega (arith, ends_before i j h k, f.budgets_are_positive i (omega arith))

  pub share_no_tick : (i j t : ℕ) → i < n → j < n → Holds offset budget i t → Holds offset budget j t → i ≡ j
  share_no_tick i j t k l hi hj =
      elim (dec_lt i j) [
        | yes below ↦ absurd (omega (arith, ends_before i j below l))
        | no above ↦ elim (dec_lt j i) [ yes below ↦ absurd (omega (arith, ends_before j i below k)) | no same ↦ omega arith ]
      ]

  pub ends_in_frame : (i : ℕ) → i < n → offset i + budget i ≤ frame_length
  ends_in_frame i k = go n refl
    where
      go : (m : ℕ) → n ≡ m → offset i + budget i ≤ frame_length
      go zero e = omega arith
      go (suc m) e =
          elim (ℕ_discrete i m) [
            | yes same ↦ omega (arith, f.last_end_is_frame_length i (omega arith))
            | no before ↦
                omega (arith, ends_before i m (omega arith) (omega arith), f.last_end_is_frame_length m (omega arith))
          ]

  pub holds_in_frame : (i t : ℕ) → i < n → Holds offset budget i t → t < frame_length
  holds_in_frame i t k h = omega (arith, ends_in_frame i k)

  -- the first tick is in the first window
  pub first_holds : Holds offset budget 0 0
  first_holds =
      record { started = omega (arith, f.first_starts_at_zero); not_ended = omega (arith, f.budgets_are_positive 0 f.one_at_least) }

  pub some_ticks : 0 < frame_length
  some_ticks = holds_in_frame 0 0 f.one_at_least first_holds

  -- a tick before the end of window j is in a window up to j
  reached : (t j : ℕ) → j < n → t < offset j + budget j → (i : ℕ) × (i < n) × Holds offset budget i t
  reached t zero k h = (zero, k, record { started = omega (arith, f.first_starts_at_zero); not_ended = h })
  reached t (suc j) k h =
      elim (dec_lt t (offset (suc j))) [
        | yes earlier ↦ reached t j (omega arith) (omega (arith, f.starts_where_one_before_ends j k))
        | no here ↦ (suc j, k, record { started = omega arith; not_ended = h })
      ]

  some_window : (t : ℕ) → t < frame_length → (i : ℕ) × (i < n) × Holds offset budget i t
  some_window t h = go n refl
    where
      go : (m : ℕ) → n ≡ m → (i : ℕ) × (i < n) × Holds offset budget i t
      go zero e = absurd (omega (arith, f.one_at_least))
      go (suc m) e = reached t m (omega arith) (omega (arith, f.last_end_is_frame_length m (omega arith)))

  pub window_at_lem : (i t : ℕ) → i < n → Holds offset budget i t → window_at n offset budget t ≡ i
  window_at_lem i t k h = only_found n offset budget t i k h (λ j l hj. share_no_tick j i t l k hj h)

  -- each tick below the frame's end is in exactly one window, the one that `window_at` finds
  pub exactly_one : (t : ℕ) → t < frame_length → OnlyWindow n offset budget t (window_at n offset budget t)
  exactly_one t h =
      let w = some_window t h in
      rw (window_at_lem w.0 t w.1 w.2)
      (record { is_window = w.1; holds = w.2; no_other = λ j l hj. share_no_tick j w.0 t l w.1 hj w.2 })

  -- the tick after a window's last is the first of the next window
  pub next_starts : (i t : ℕ) → i < n → t + 1 ≡ offset i + budget i → next_tick frame_length t ≡ offset (next_window n i)
  unfolding next_of
  next_starts i t k last =
      elim (dec_lt (suc i) n) [
        | yes more ↦
            rw (
              lt-ltb (suc i) n more,
              lt-ltb (suc t) frame_length (omega (arith, f.starts_where_one_before_ends i more, ends_in_frame (suc i) more, f.budgets_are_positive (suc i) more)),
            )
            (omega (arith, f.starts_where_one_before_ends i more))
        | no end ↦
            rw (le-ltb (suc i) n (omega arith), le-ltb (suc t) frame_length (omega (arith, f.last_end_is_frame_length i (omega arith))))
            (omega (arith, f.first_starts_at_zero))
      ]

  pub next_is_window : (i : ℕ) → i < n → next_window n i < n
  unfolding next_of
  next_is_window i k =
      elim (dec_lt (suc i) n) [
        | yes more ↦ rw (lt-ltb (suc i) n more) more
        | no end ↦ rw (le-ltb (suc i) n (omega arith)) f.one_at_least
      ]

  -- a tick that is not a window's last is followed by the next number
  pub goes_on : (i t : ℕ) → i < n → t + 1 < offset i + budget i → next_tick frame_length t ≡ t + 1
  goes_on i t k more = next_below frame_length t (omega (arith, ends_in_frame i k))

  pub next_holds : (i t : ℕ) → i < n → t + 1 ≡ offset i + budget i
      → Holds offset budget (next_window n i) (next_tick frame_length t)
  next_holds i t k last =
      let p = f.budgets_are_positive (next_window n i) (next_is_window i k) in
      rw (next_starts i t k last) (record { started = omega arith; not_ended = omega arith })

-- after N ticks from 0 on the next is N modulo the frame length
pub next_tick_lem : (N frame_length : ℕ) → 0 < frame_length → next_tick frame_length (N % frame_length) ≡ (N + 1) % frame_length
next_tick_lem N frame_length positive =
    elim (dec_lt (N % frame_length + 1) frame_length) [
      | yes below ↦
          next_below frame_length (N % frame_length) below ∙ sym (mod-eq_of_lt below) ∙ mod-add-mod N frame_length 1
      | no end ↦
          let same : N % frame_length + 1 ≡ frame_length = omega (arith, mod-lt N positive) in
          next_past frame_length (N % frame_length) (omega arith) ∙ sym (mod_self frame_length)
          ∙ ap (λ (t : ℕ). t % frame_length) (sym same)
          ∙ mod-add-mod N frame_length 1
    ]

-- what stands past the last window does not matter
pub follow_same : {n : ℕ} {offset budget offset' budget' : ℕ → ℕ} {frame_length : ℕ} → ((i : ℕ) → i < n → offset i ≡ offset' i)
    → ((i : ℕ) → i < n → budget i ≡ budget' i) → Follow n offset budget frame_length → Follow n offset' budget' frame_length
follow_same same-offset same-budget f =
    record {
      one_at_least = f.one_at_least;
      first_starts_at_zero = omega (arith, same-offset 0 f.one_at_least, f.first_starts_at_zero);
      budgets_are_positive = λ i h. omega (arith, same-budget i h, f.budgets_are_positive i h);
      starts_where_one_before_ends =
          λ i h. omega (arith, same-offset (suc i) h, same-offset i (omega arith), same-budget i (omega arith), f.starts_where_one_before_ends i h);
      last_end_is_frame_length =
          λ i h. omega (arith, same-offset i (omega arith), same-budget i (omega arith), f.last_end_is_frame_length i h);
    }

pub window_at_same : (n : ℕ) (offset budget offset' budget' : ℕ → ℕ) (t : ℕ) → ((i : ℕ) → i < n → offset i ≡ offset' i)
    → ((i : ℕ) → i < n → budget i ≡ budget' i) → window_at n offset budget t ≡ window_at n offset' budget' t
unfolding window_at holdsb
window_at_same zero offset budget offset' budget' t same-offset same-budget = refl
window_at_same (suc n) offset budget offset' budget' t same-offset same-budget =
    let start = same-offset n (omega arith) in
    let lasts = same-budget n (omega arith) in
    (λ k. cond (leb (start k) t && ltb t (start k + lasts k)) n (window_at n offset budget t))
    ∙ ap (cond (holdsb offset' budget' n t) n)
    (window_at_same n offset budget offset' budget' t (λ i h. same-offset i (omega arith)) (λ i h. same-budget i (omega arith)))
