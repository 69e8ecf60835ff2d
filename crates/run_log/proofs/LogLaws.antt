-- What a log is after a call: its words in their place, if there is one and room for it.
-- Assumes nothing.
use Rattle.std.specs.Prelude.{Option, Some, None}
use mathlib.Core.Bool.{Bool, true, false, cond, ◌&&◌, and-false}
use mathlib.Core.List.{List, [], ◌∷◌, ◌++◌, append_assoc}
use mathlib.Core.Path.{◌≡◌, refl, sym, ap, ◌∙◌}
use Prim.Native.Nat.{ℕ, zero, suc, ◌+◌, ◌*◌, ◌-◌, ◌/◌, ◌≤◌, ◌<◌}
use native.Mathlib.Numerals.{add-one}
use native.Mathlib.Decide.{dec_lt}
use native.Mathlib.Omega.{arith}
use borrow.Author.Tests.{lt-ltb, le-ltb}
use lib.Dec.{ltb}
use lib.ListN.{length, get_or, set, drop, length-append}
use lib.Seq.{drop-cons, set_at}
use Rattle.protocol.specs.declared.Call.{Call}
use Rattle.protocol.specs.declared.CallWords.{CallWords}
use Rattle.run_log.specs.Log.{too_short, asks, goes_in, with_call, logged, calls_logged, call_log}

pub too_few : (words ticks : ℕ) → words < 4 + 6 * ticks → too_short words ticks ≡ true
unfolding too_short
too_few words ticks few = lt-ltb words (4 + 6 * ticks) few

pub below_four : (words ticks : ℕ) → words < 4 → too_short words ticks ≡ true
below_four words ticks few = too_few words ticks (omega arith)

pub long_enough : (words ticks : ℕ) → 4 + 6 * ticks ≤ words → too_short words ticks ≡ false
unfolding too_short
long_enough words ticks enough = le-ltb words (4 + 6 * ticks) enough

pub by_sixths : (words ticks : ℕ) → 4 ≤ words → ltb ((words - 4) / 6) ticks ≡ too_short words ticks
unfolding too_short
by_sixths words ticks enough =
    elim (dec_lt words (4 + 6 * ticks)) [
      | yes short ↦ lt-ltb ((words - 4) / 6) ticks (omega arith) ∙ sym (lt-ltb words (4 + 6 * ticks) short)
      | no long ↦ le-ltb ((words - 4) / 6) ticks (omega arith) ∙ sym (le-ltb words (4 + 6 * ticks) (omega arith))
    ]

-- a call other than `None`
pub asked : (call : Option Call) → (call ≡ None → ⊥) → asks call ≡ true
asked None k = absurd (k refl)
asked (Some call) k = refl

module _ (log : List ℕ) (calls : ℕ) (call : Option Call) where
  pub no_room : length log / 2 ≤ calls → goes_in log calls call ≡ false
  no_room full = ap (λ (b : Bool). asks call && b) (le-ltb calls (length log / 2) full) ∙ and-false (asks call)

  pub stays : goes_in log calls call ≡ false → (calls_logged log calls call ≡ calls) × (logged log calls call ≡ log)
  unfolding calls_logged logged
  stays none = (ap (λ (b : Bool). cond b (calls + 1) calls) none, ap (λ (b : Bool). cond b (with_call log calls call) log) none)

  pub grows : asks call ≡ true → calls < length log / 2 → (calls_logged log calls call ≡ calls + 1) × (logged log calls call ≡ with_call log calls call)
  unfolding calls_logged logged
  grows asked room =
      let goes : goes_in log calls call ≡ true = λ k. asked k && lt-ltb calls (length log / 2) room k in
      (ap (λ (b : Bool). cond b (calls + 1) calls) goes, ap (λ (b : Bool). cond b (with_call log calls call) log) goes)

-- a log of m calls, with what stood after them: one call more, in the place of two words
module _ (call : ℕ → CallWords) where
  pub length_log : (m : ℕ) → length (call_log call m) ≡ m * 2
  unfolding call_log
  length_log zero = refl
  length_log (suc m) = length-append (call_log call m) ((call m).number ∷ (call m).partition ∷ []) ∙ omega (arith, length_log m)

  pub one_call_more : (log : List ℕ) (m : ℕ) → m < length log / 2
      → set (set (call_log call m ++ drop (m * 2) log) (m * 2) (call m).number) (m * 2 + 1) (call m).partition
      ≡ call_log call (suc m) ++ drop (suc m * 2) log
  unfolding call_log
  one_call_more log m room =
      let before = call_log call m in
      let rest = drop (m * 2 + 1 + 1) log in
      let number = (call m).number in
      let partition = (call m).partition in
      let x = get_or log (m * 2) 0 in
      let y = get_or log (m * 2 + 1) 0 in
      let second : drop (m * 2 + 1) log ≡ y ∷ rest = drop-cons log (m * 2 + 1) 0 (omega arith) ∙ ap (λ (n : ℕ). y ∷ drop n log) (sym (add-one (m * 2 + 1))) in
      let both : drop (m * 2) log ≡ x ∷ y ∷ rest = drop-cons log (m * 2) 0 (omega arith) ∙ ap (λ (n : ℕ). x ∷ drop n log) (sym (add-one (m * 2))) ∙ ap (λ (l : List ℕ). x ∷ l) second in
      let past : m * 2 + 1 + 1 ≡ suc m * 2 = omega arith in
      let one-longer : length (before ++ (number ∷ [])) ≡ m * 2 + 1 = length-append before (number ∷ []) ∙ ap (λ (n : ℕ). n + 1) (length_log m) in
      ap (λ (l : List ℕ). set (set (before ++ l) (m * 2) number) (m * 2 + 1) partition) both
      ∙ ap (λ (l : List ℕ). set l (m * 2 + 1) partition) (set_at before x (y ∷ rest) number (m * 2) (length_log m) ∙ sym (append_assoc before (number ∷ []) (y ∷ rest)))
      ∙ set_at (before ++ (number ∷ [])) y rest partition (m * 2 + 1) one-longer
      ∙ append_assoc before (number ∷ []) (partition ∷ rest)
      ∙ sym (append_assoc before (number ∷ partition ∷ []) rest)
      ∙ ap (λ (n : ℕ). (before ++ (number ∷ partition ∷ [])) ++ drop n log) past
