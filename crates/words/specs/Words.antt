-- The region words of a partition (document 01, "Region words"): its rows fill slots 0 upward in table order, the other slots are free.
use Rattle.std.specs.Prelude.{Bool, cond, ◌||◌, List, [], ◌∷◌, ◌++◌, ◌≡◌, ℕ, zero, suc, ◌+◌, ◌-◌, ◌*◌, ◌/◌, ◌^◌, ltb, eqb, length, get_or, replicate, Ok, Err}
use Rattle.std.specs.Int.Count.{count_trailing_zeros}
use Rattle.refusal.specs.declared.Refusal.TheVariants.{NoWordsFor}
use Rattle.refusal.specs.Verdict.{Verdict, accepted}
use Rattle.refusal.specs.First.{refuse_if, or_else}
use Rattle.records.specs.declared.Row.{Row}
use Rattle.plan.specs.Plan.{Plan, own_rows}
use Rattle.records.specs.Records.{max_partition, writable, executable}
use Rattle.plan.specs.Faults.{verdict_of}
use Rattle.words.specs.declared.Pair.{Pair}
use Rattle.words.specs.declared.Words.{Words}
use Rattle.words.specs.Manual.{Rbar, Rasr, rbar_word, rasr_word, decode, Mpu, programmed}
use Rattle.words.specs.Slots.{slot_count, Slot, at_slot}

-- the number of trailing zero bits of size, less one
abbrev pub size_field : ℕ → ℕ
size_field size = count_trailing_zeros 32 size - 1

abbrev pub ap_of : ℕ → ℕ
ap_of access = cond (eqb access writable) 3 6

abbrev pub xn_of : ℕ → ℕ
xn_of access = cond (eqb access executable) 0 1

-- the rights that these give: "An address can be read in an enabled slot that covers it with AP 3 or 6, and written with AP 3"
abbrev pub read_ap : ℕ → Bool
read_ap ap = eqb ap 3 || eqb ap 6

abbrev pub write_ap : ℕ → Bool
write_ap ap = eqb ap 3

-- document 01's base + 16 + slot: a base is a multiple of 32
abbrev pub row_rbar : ℕ → Row → Rbar
row_rbar k r = record { addr = r.base / 2 ^ 5; valid = 1; region = k }

abbrev pub row_rasr : Row → Rasr
row_rasr r =
    record {
      xn = xn_of r.access;
      ap = ap_of r.access;
      tex = 1;
      s = 0;
      c = 0;
      b = 0;
      srd = 0;
      size = size_field r.size;
      enable = 1;
    }

-- slot k with row r; slot k free
unfoldable pub row_pair : ℕ → Row → Pair
row_pair k r = record { first = rbar_word (row_rbar k r); second = rasr_word (row_rasr r) }

unfoldable pub free_pair : ℕ → Pair
free_pair k = record { first = rbar_word (record { addr = 0; valid = 1; region = k }); second = 0 }

-- document 01's own sums: "base + 16 + slot", then enable, size field, TEX, AP and XN
abbrev pub sums : ℕ → Row → Pair
sums k r =
    record {
      first = r.base + 16 + k;
      second = 1 + size_field r.size * 2 + 2 ^ 19 + ap_of r.access * 2 ^ 24 + xn_of r.access * 2 ^ 28;
    }

-- slot k of a partition with these rows
abbrev pub pair_at : List Row → ℕ → Pair
pair_at own k = at_slot (row_pair k) (free_pair k) (length own) own k

-- the pairs of slots 0, 1, .., n - 1
unfoldable pub up_to : (ℕ → Pair) → ℕ → List Pair
up_to slot zero = []
up_to slot (suc n) = up_to slot n ++ (slot n ∷ [])

-- the plan's refusal, else 15
unfoldable pub words_verdict : Plan → ℕ → Verdict
words_verdict p q = or_else (verdict_of p) (refuse_if (ltb max_partition q) NoWordsFor)

-- "region words all zero"
abbrev pub no_pair : Pair
no_pair = record { first = 0; second = 0 }

abbrev pub no_words : Verdict → Words
no_words verdict = record { slots = replicate slot_count no_pair; verdict = verdict }

unfoldable pub answer : Verdict → List Row → Words
answer (Ok _) own = record { slots = up_to (pair_at own) slot_count; verdict = accepted }
answer (Err r) own = no_words (Err r)

unfoldable pub words_of : Plan → ℕ → Words
words_of p q = answer (words_verdict p q) (own_rows p q)

-- slot k under the words of partition q
abbrev pub slots_under : Plan → (q k : ℕ) → Slot
slots_under p q k = decode (get_or (words_of p q).slots k no_pair)

-- region k of a protection unit, whatever it held, once the words of partition q are written to it
abbrev pub slots_in : Mpu → Plan → (q k : ℕ) → Slot
slots_in mpu p q k = decode ((programmed mpu (words_of p q).slots).regions k)

-- "equal region words for every partition but q"
abbrev pub EqualWordsBut : ℕ → Plan → Plan → Type 0
EqualWordsBut q p p' = (other : ℕ) → (other ≡ q → ⊥) → words_of p other ≡ words_of p' other
