-- What the private functions of the words work on. Nothing here has to be believed: proofs/PartsLaws.antt shows that together they are
-- `words_of`.
use Rattle.std.specs.Prelude.{List, ℕ, ◌<◌, Result, Ok, Err, get_or}
use Rattle.refusal.specs.declared.Refusal.{Refusal}
use Rattle.refusal.specs.Verdict.{accepted}
use Rattle.std.specs.Int.Count.{count_trailing_zeros}
use Rattle.own.specs.declared.OwnRows.{OwnRows}
use Rattle.own.specs.Own.{no_row}
use Rattle.words.specs.declared.Pair.{Pair}
use Rattle.words.specs.declared.Words.{Words}
use Rattle.words.specs.Slots.{at_slot}
use Rattle.words.specs.Words.{row_pair, free_pair, no_words}

-- every row has an even size, so that one less than its trailing zeros is a number
abbrev pub EvenSizes : OwnRows → Type 0
EvenSizes own = (k : ℕ) → k < own.count → 0 < count_trailing_zeros 32 (get_or own.rows k no_row).size

-- `pair_at`, of rows in an array
abbrev pub slot_at : OwnRows → ℕ → Pair
slot_at own k = at_slot (row_pair k) (free_pair k) own.count own.rows k

-- slots that were found, or why there are none, as region words
abbrev pub answered : Result (List Pair) Refusal → Words
answered (Ok slots) = record { slots = slots; verdict = accepted }
answered (Err r) = no_words (Err r)
