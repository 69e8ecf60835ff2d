-- The words, slot by slot: what the loop writes is what the definition lists; the three answers; what the words depend on.
-- Assumes nothing.
use mathlib.Core.List.{List, [], ◌∷◌}
use mathlib.Core.Path.{◌≡◌, refl, sym, ap, ◌∙◌}
use Prim.Native.Nat.{ℕ, zero, suc, ◌+◌, ◌≤◌, ◌<◌}
use native.Mathlib.Numerals.{add-one}
use native.Mathlib.Decide.{dec_lt}
use native.Mathlib.Omega.{arith}
use borrow.Author.Tests.{lt-ltb, le-ltb}
use lib.Dec.{eqb, ltb}
use lib.ListN.{length, get_or, set, replicate, length-append, get_or-append}
use lib.Seq.{get_or_at}
use Rattle.refusal.specs.declared.Refusal.{Refusal}
use Rattle.refusal.specs.declared.Refusal.TheVariants.{NoWordsFor}
use Rattle.refusal.specs.Verdict.{Verdict, accepted}
use Rattle.std.specs.Prelude.{Err}
use Rattle.refusal.specs.First.{refuse_if, or_else}
use Rattle.refusal.proofs.Tests.{either_at_most}
use Rattle.plan.specs.Plan.{Plan, own_rows}
use Rattle.records.specs.Records.{max_partition, writable, executable}
use Rattle.plan.specs.Faults.{verdict_of}
use Rattle.own.specs.Own.{padded}
use Rattle.accepted.specs.Accepted as declared
use Rattle.accepted.specs.Equal.{EqualBut}
use Rattle.accepted.proofs.AcceptedLaws.{all_accepted}
use Rattle.accepted.proofs.EqualLaws.{equal_rows}
use Rattle.own.proofs.PaddedLaws.{one_more, full}
use Rattle.words.specs.declared.Pair.{Pair}
use Rattle.words.specs.declared.Words.{Words}
use Rattle.words.specs.Slots.{slot_count}
use Rattle.words.specs.Words.{ap_of, xn_of, pair_at, up_to, no_pair, no_words, words_verdict, answer, words_of, EqualWordsBut}

pub ap_at_most : (access : ℕ) → ap_of access ≤ 7
ap_at_most access = either_at_most (eqb access writable) (omega arith) (omega arith)

pub xn_at_most : (access : ℕ) → xn_of access ≤ 1
xn_at_most access = either_at_most (eqb access executable) (omega arith) (omega arith)

module _ (slot : ℕ → Pair) where
  pub length_up_to : (n : ℕ) → length (up_to slot n) ≡ n
  unfolding up_to
  length_up_to zero = refl
  length_up_to (suc n) = omega (arith, length-append (up_to slot n) (slot n ∷ []), length_up_to n)

  pub slot_of_words : (n k : ℕ) (d : Pair) → k < n → get_or (up_to slot n) k d ≡ slot k
  unfolding up_to
  slot_of_words zero k d h = absurd (omega arith)
  slot_of_words (suc n) k d h =
      elim (dec_lt k n) [
        | yes below ↦ get_or-append (up_to slot n) (slot n ∷ []) d k (omega (arith, length_up_to n)) ∙ slot_of_words n k d below
        | no last ↦
            let here : n ≡ k = omega arith in
            get_or_at (up_to slot n) (slot n) [] d k (length_up_to n ∙ here) ∙ ap slot here
      ]

  -- the slots below n are written, the others not yet; then slot n is written
  pub filled : ℕ → List Pair
  filled n = padded slot_count no_pair (up_to slot n)

  pub none_filled : replicate slot_count no_pair ≡ filled 0
  unfolding up_to filled padded
  none_filled = refl

  pub fill : (n : ℕ) → n < slot_count → set (filled n) n (slot n) ≡ filled (n + 1)
  unfolding up_to filled
  fill n h =
      ap (λ (at : ℕ). set (filled n) at (slot n)) (sym (length_up_to n))
      ∙ one_more slot_count no_pair (up_to slot n) (slot n) (omega (arith, length_up_to n))
      ∙ ap filled (sym (add-one n))

  pub all_filled : filled slot_count ≡ up_to slot slot_count
  unfolding filled
  all_filled = full slot_count no_pair (up_to slot slot_count) (length_up_to slot_count)

module _ (p : Plan) (q : ℕ) where
  -- the three answers
  pub words_refused : (r : Refusal) → verdict_of p ≡ Err r → words_of p q ≡ no_words (Err r)
  unfolding words_of words_verdict answer or_else
  words_refused r e = ap (λ (v : Verdict). answer (or_else v (refuse_if (ltb max_partition q) NoWordsFor)) (own_rows p q)) e

  pub words_unknown : verdict_of p ≡ accepted → max_partition < q → words_of p q ≡ no_words (Err NoWordsFor)
  unfolding words_of words_verdict answer or_else refuse_if
  words_unknown e h = (λ j. answer (or_else (e j) (refuse_if (lt-ltb max_partition q h j) NoWordsFor)) (own_rows p q))

  pub words_found : verdict_of p ≡ accepted → q ≤ max_partition
      → words_of p q ≡ record { slots = up_to (pair_at (own_rows p q)) slot_count; verdict = accepted }
  unfolding words_of words_verdict answer or_else refuse_if
  words_found e h = (λ j. answer (or_else (e j) (refuse_if (le-ltb max_partition q h j) NoWordsFor)) (own_rows p q))

-- slot k of the words
pub words_slot : (p : Plan) (q : ℕ) → declared.AcceptedIf p → q ≤ max_partition → (k : ℕ) → k < slot_count
    → get_or (words_of p q).slots k no_pair ≡ pair_at (own_rows p q) k
words_slot p q a known k h =
    ap (λ (w : Words). get_or w.slots k no_pair) (words_found p q (all_accepted p a) known) ∙ slot_of_words (pair_at (own_rows p q)) slot_count k no_pair h

pub equal_words : {q : ℕ} {p p' : Plan} → declared.AcceptedIf p → declared.AcceptedIf p' → EqualBut q p p' → EqualWordsBut q p p'
unfolding words_of words_verdict
equal_words {q} {p} {p'} a a' same other apart =
    let both = all_accepted p a ∙ sym (all_accepted p' a') in
    λ j. answer (or_else (both j) (refuse_if (ltb max_partition other) NoWordsFor)) (equal_rows same other apart j)
