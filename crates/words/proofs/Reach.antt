-- The words of an accepted plan are as planned, slot by slot and in the unit that they are written to, so partitions are separated under
-- both.
-- Assumes nothing.
use mathlib.Core.Path.{◌≡◌, sym, ap, ◌∙◌}
use Prim.Native.Nat.{ℕ, ◌≤◌, ◌<◌}
use native.Mathlib.Decide.{dec_lt}
use native.Mathlib.Omega.{arith}
use lib.ListN.{length, get_or}
use Rattle.plan.specs.Plan.{Plan, own_rows}
use Rattle.records.specs.Records.{AllU32, max_partition}
use Rattle.own.specs.Own.{no_row}
use Rattle.accepted.specs.Accepted as declared
use Rattle.words.specs.Slots.{slot_count, row_slot, no_slot, row_slots, AsPlanned, Separated, NoTwoShare}
use Rattle.words.specs.Manual.{decode, Mpu}
use Rattle.words.specs.Words.{row_pair, free_pair, pair_at, no_pair, words_of, sums, slots_under, slots_in}
use Rattle.words.proofs.WordsLaws.{words_slot}
use Rattle.words.proofs.SlotLaws.{filled_slot, free_slot}
use Rattle.words.proofs.Decoded.{row_sums, slot_is_row, free_covers_nothing}
use Rattle.words.proofs.Rows.{in_words}
use Rattle.words.proofs.Programmed.{nothing_stays}
use Rattle.words.proofs.Separation.{separated, no_two_share}

module _ (p : Plan) (u32 : AllU32 p.rows) (a : declared.AcceptedIf p) where
  -- a slot with a row has document 01's sums
  pub as_summed : (q : ℕ) → q ≤ max_partition → (k : ℕ) → k < length (own_rows p q)
      → get_or (words_of p q).slots k no_pair ≡ sums k (get_or (own_rows p q) k no_row)
  as_summed q known k filled =
      words_slot p q a known k (omega (arith, a.eight_rows_at_most q))
      ∙ filled_slot (row_pair k) (free_pair k) (length (own_rows p q)) (own_rows p q) k filled
      ∙ row_sums k (get_or (own_rows p q) k no_row) (in_words p a q u32 k filled)

  slot_as_planned : (q k : ℕ) → k < slot_count → decode (pair_at (own_rows p q) k) ≡ row_slots (own_rows p q) k
  slot_as_planned q k h =
      let own = own_rows p q in
      elim (dec_lt k (length own)) [
        | yes filled ↦
            ap decode (filled_slot (row_pair k) (free_pair k) (length own) own k filled)
            ∙ slot_is_row k (get_or own k no_row) (in_words p a q u32 k filled) (omega arith)
            ∙ sym (filled_slot row_slot no_slot (length own) own k filled)
        | no free ↦
            ap decode (free_slot (row_pair k) (free_pair k) (length own) own k (omega arith)) ∙ free_covers_nothing k
            ∙ sym (free_slot row_slot no_slot (length own) own k (omega arith))
      ]

  pub as_planned : AsPlanned p (slots_under p)
  as_planned q known k h = ap decode (words_slot p q a known k h) ∙ slot_as_planned q k h

  pub as_programmed : (mpu : Mpu) → AsPlanned p (slots_in mpu p)
  as_programmed mpu q known k h = ap decode (nothing_stays p u32 a q known mpu k h) ∙ as_planned q known k h

  pub separation : Separated (slots_under p) (slots_under p)
  separation = separated p a as_planned as_planned

  pub no_overlap : NoTwoShare (slots_under p)
  no_overlap = no_two_share p a as_planned
