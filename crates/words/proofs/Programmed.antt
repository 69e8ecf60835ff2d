-- The eight pairs of an accepted answer, written in their order, leave nothing of what regions 0 to 7 held and change no other: each pair
-- names its own slot. A refusal's zeros switch regions off at most.
-- Assumes nothing.
use mathlib.Core.Bool.{Bool, true, false, cond}
use mathlib.Core.List.{List, [], ◌∷◌, ◌++◌}
use mathlib.Core.Path.{◌≡◌, refl, sym, ap, ◌∙◌}
use Prim.Native.Nat.{ℕ, zero, suc, ◌≤◌, ◌<◌}
use native.Mathlib.Decide.{dec_lt, ℕ_discrete}
use native.Mathlib.Omega.{arith}
use borrow.Author.Tests.{eq-eqb, ne_eqb}
use lib.Dec.{eqb}
use lib.ListN.{length, get_or, replicate}
use Rattle.refusal.proofs.Tests.{chosen, passed}
use Rattle.plan.specs.Plan.{Plan, own_rows}
use Rattle.records.specs.Records.{AllU32, max_partition}
use Rattle.own.specs.Own.{no_row}
use Rattle.accepted.specs.Accepted as declared
use Rattle.accepted.proofs.AcceptedLaws.{all_accepted}
use Rattle.words.specs.declared.Pair.{Pair}
use Rattle.words.specs.declared.Words.{Words}
use Rattle.words.specs.Slots.{slot_count}
use Rattle.words.specs.Manual.{Rbar, rbar_of, rasr_of, Mpu, selected_by, written, programmed, Names, Off}
use Rattle.words.specs.Words.{row_pair, free_pair, pair_at, up_to, no_pair, words_of}
use Rattle.words.specs.Unit.{OthersOff}
use Rattle.words.proofs.WordsLaws.{words_unknown, words_found, words_slot}
use Rattle.words.proofs.SlotLaws.{filled_slot, free_slot}
use Rattle.words.proofs.Decoded.{first_back}
use Rattle.words.proofs.Rows.{in_words}

free_names : (k : ℕ) → k < slot_count → Names (free_pair k) k
unfolding free_pair
free_names k h = record { valid = omega arith; region = omega arith }

selects : (mpu : Mpu) (w : Pair) (k : ℕ) → Names w k → selected_by mpu w ≡ k
selects mpu w k names =
    ap (λ (b : Bool). cond b (rbar_of w.first).region mpu.selected) (eq-eqb _ _ names.valid) ∙ names.region

-- the last pair is written after the others
last_written : (mpu : Mpu) (pairs : List Pair) (w : Pair) → programmed mpu (pairs ++ (w ∷ [])) ≡ written (programmed mpu pairs) w
unfolding programmed
last_written mpu [] w = refl
last_written mpu (v ∷ pairs) w = last_written (written mpu v) pairs w

module _ (slot : ℕ → Pair) (mpu : Mpu) where
  one_written : (n : ℕ) → Names (slot n) n → (k : ℕ)
      → (programmed mpu (up_to slot (suc n))).regions k ≡ cond (eqb k n) (slot n) ((programmed mpu (up_to slot n)).regions k)
  unfolding up_to
  one_written n names k =
      let before = programmed mpu (up_to slot n) in
      ap (λ (u : Mpu). u.regions k) (last_written mpu (up_to slot n) (slot n))
      ∙ ap (λ (at : ℕ). cond (eqb k at) (slot n) (before.regions k)) (selects before (slot n) n names)

  all_written : (n : ℕ) → ((k : ℕ) → k < n → Names (slot k) k) → (k : ℕ) → k < n → (programmed mpu (up_to slot n)).regions k ≡ slot k
  all_written zero names k h = absurd (omega arith)
  all_written (suc n) names k h =
      one_written n (names n (omega arith)) k
      ∙ elim (ℕ_discrete k n) [
        | yes here ↦ chosen _ _ (eq-eqb k n here) ∙ ap slot (sym here)
        | no elsewhere ↦ passed _ _ (ne_eqb k n elsewhere) ∙ all_written n (λ j below. names j (omega arith)) k (omega arith)
      ]

  none_past : (n : ℕ) → ((k : ℕ) → k < n → Names (slot k) k) → (k : ℕ) → n ≤ k → (programmed mpu (up_to slot n)).regions k ≡ mpu.regions k
  unfolding up_to programmed
  none_past zero names k h = refl
  none_past (suc n) names k h =
      one_written n (names n (omega arith)) k ∙ passed _ _ (ne_eqb k n (λ here. omega arith))
      ∙ none_past n (λ j below. names j (omega arith)) k (omega arith)

-- a second word of 0 has ENABLE 0
zeros_keep_off : (n : ℕ) (mpu : Mpu) (k : ℕ) → Off mpu k → Off (programmed mpu (replicate n no_pair)) k
unfolding programmed
zeros_keep_off zero mpu k off = off
zeros_keep_off (suc n) mpu k off = zeros_keep_off n (written mpu no_pair) k (of (eqb k (selected_by mpu no_pair)))
  where
    of : (b : Bool) → (rasr_of (cond b no_pair (mpu.regions k)).second).enable ≡ 0
    of true = refl
    of false = off

module _ (p : Plan) (u32 : AllU32 p.rows) (a : declared.AcceptedIf p) (q : ℕ) where
  pub names_itself : (k : ℕ) → k < slot_count → Names (pair_at (own_rows p q) k) k
  names_itself k h =
      elim (dec_lt k (length (own_rows p q))) [
        | yes filled ↦
            let back = first_back k (get_or (own_rows p q) k no_row) (in_words p a q u32 k filled) (omega arith) in
            rw (filled_slot (row_pair k) (free_pair k) (length (own_rows p q)) (own_rows p q) k filled)
            (record { valid = ap (λ (f : Rbar). f.valid) back; region = ap (λ (f : Rbar). f.region) back })
        | no free ↦ rw (free_slot (row_pair k) (free_pair k) (length (own_rows p q)) (own_rows p q) k (omega arith)) (free_names k h)
      ]

  -- whatever the unit held before, each of its regions 0 to 7 now has the pair of that slot
  pub nothing_stays : q ≤ max_partition → (mpu : Mpu) (k : ℕ) → k < slot_count
      → (programmed mpu (words_of p q).slots).regions k ≡ get_or (words_of p q).slots k no_pair
  nothing_stays known mpu k h =
      ap (λ (w : Words). (programmed mpu w.slots).regions k) (words_found p q (all_accepted p a) known)
      ∙ all_written (pair_at (own_rows p q)) mpu slot_count names_itself k h
      ∙ sym (words_slot p q a known k h)

  -- and its other regions what they had
  others_stay : q ≤ max_partition → (mpu : Mpu) (k : ℕ) → slot_count ≤ k → (programmed mpu (words_of p q).slots).regions k ≡ mpu.regions k
  others_stay known mpu k h =
      ap (λ (w : Words). (programmed mpu w.slots).regions k) (words_found p q (all_accepted p a) known)
      ∙ none_past (pair_at (own_rows p q)) mpu slot_count names_itself k h

  -- no words switch a region on that is none of the slots
  pub stay_off : (mpu : Mpu) (count : ℕ) → OthersOff mpu count → OthersOff (programmed mpu (words_of p q).slots) count
  stay_off mpu count others = record { for_each_slot = others.for_each_slot; off = λ k past below. of k past (others.off k past below) }
    where
      of : (k : ℕ) → slot_count ≤ k → Off mpu k → Off (programmed mpu (words_of p q).slots) k
      of k past off =
          elim (dec_lt max_partition q) [
            | yes unknown ↦ rw (words_unknown p q (all_accepted p a) unknown) (zeros_keep_off slot_count mpu k off)
            | no known ↦ ap (λ (w : Pair). (rasr_of w.second).enable) (others_stay (omega arith) mpu k past) ∙ off
          ]
