-- Slots that are as planned keep partitions apart, on any controller: a slot that covers an address has a row that covers it, and two rows
-- of an accepted plan do not clash.
-- Assumes nothing.
use mathlib.Core.Bool.{true, false≢true}
use mathlib.Core.Logic.{inl, inr}
use mathlib.Core.Path.{◌≡◌, sym, ap, ◌∙◌}
use Prim.Native.Nat.{ℕ, ◌≤◌, ◌<◌}
use native.Mathlib.Decide.{dec_lt}
use native.Mathlib.Omega.{arith}
use borrow.Author.Tests.{eqb-true}
use lib.ListN.{length, get_or}
use Rattle.plan.specs.Plan.{Plan, own_rows}
use Rattle.records.specs.Records.{max_partition, writable}
use Rattle.own.specs.Own.{no_row}
use Rattle.accepted.specs.Accepted as declared
use Rattle.row.specs.Addresses.{Covers}
use Rattle.own.proofs.OwnLaws.{sound, no_clash}
use Rattle.words.proofs.SlotLaws.{row_covers, filled_slot, free_slot}
use Rattle.words.specs.Slots.{slot_count, write, Slot, row_slot, no_slot, AsPlanned, Separated, NoTwoShare}

-- the row of a slot that covers address x
pub record Behind (p : Plan) (q k x : ℕ) (slot : Slot) : Type 0 where
  pub is_row : k < length (own_rows p q)
  pub is_slot : slot ≡ row_slot (get_or (own_rows p q) k no_row)
  pub covers : Covers (get_or (own_rows p q) k no_row) x

module _ (p : Plan) (slots : ℕ → ℕ → Slot) (planned : AsPlanned p slots) where
  pub behind : (q : ℕ) → q ≤ max_partition → (k x : ℕ) → k < slot_count → (slots q k).covers x ≡ true → Behind p q k x (slots q k)
  behind q known k x below covered =
      elim (dec_lt k (length (own_rows p q))) [
        | yes filled ↦
            let r = get_or (own_rows p q) k no_row in
            let same : slots q k ≡ row_slot r = planned q known k below ∙ filled_slot row_slot no_slot (length (own_rows p q)) (own_rows p q) k filled in
            record { is_row = filled; is_slot = same; covers = (row_covers r x).0 (sym (ap (λ (slot : Slot). slot.covers x) same) ∙ covered) }
        | no free ↦
            let nothing : slots q k ≡ no_slot = planned q known k below ∙ free_slot row_slot no_slot (length (own_rows p q)) (own_rows p q) k (omega arith) in
            absurd (false≢true (sym (ap (λ (slot : Slot). slot.covers x) nothing) ∙ covered))
      ]

module _ (p : Plan) (a : declared.AcceptedIf p) where
  pub separated : {slots others : ℕ → ℕ → Slot} → AsPlanned p slots → AsPlanned p others → Separated slots others
  separated {slots} {others} planned planned-too q other known known-too apart right x written reached =
      let b = behind p slots planned q known written.slot x written.in_range written.covered in
      let c = behind p others planned-too other known-too reached.slot x reached.in_range reached.covered in
      let writes = eqb-true _ writable (sym (ap (λ (slot : Slot). slot.permits write) b.is_slot) ∙ written.permitted) in
      no_clash p a q written.slot other reached.slot b.is_row c.is_row (λ same_partition same-slot. apart same_partition)
      (record { share = (x, b.covers, c.covers); belong_or_write = inr (inl writes) })

  pub no_two_share : {slots : ℕ → ℕ → Slot} → AsPlanned p slots → NoTwoShare slots
  no_two_share {slots} planned q known j k x j-below k-below apart covered covered-too =
      let b = behind p slots planned q known j x j-below covered in
      let c = behind p slots planned q known k x k-below covered-too in
      no_clash p a q j q k b.is_row c.is_row (λ same_partition same-slot. apart same-slot)
      (record {
        share = (x, b.covers, c.covers);
        belong_or_write = inl ((sound p a q j b.is_row).is_own ∙ sym (sound p a q k c.is_row).is_own);
      })
