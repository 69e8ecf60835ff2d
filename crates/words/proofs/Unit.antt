-- A region past the slots is off, a slot is one of the partition's rows, and no two of those share an address: so the region that decides is
-- the slot of the row that covers the address.
-- Assumes nothing.
use mathlib.Core.Bool.{Bool, true, false, Bool-discrete, false≢true}
use mathlib.Core.Logic.{◌↔◌, inl, inr}
use mathlib.Core.Path.{◌≡◌, refl, sym, ap, ◌∙◌}
use Prim.Native.Nat.{ℕ, zero, suc, ◌≤◌, ◌<◌}
use native.Mathlib.Decide.{dec_lt, ℕ_discrete}
use native.Mathlib.Omega.{arith}
use borrow.Author.Tests.{eqb-true}
use lib.ListN.{length, get_or}
use Rattle.refusal.proofs.Tests.{chosen, passed}
use Rattle.plan.specs.Plan.{Plan, own_rows}
use Rattle.records.specs.Records.{AllU32, max_partition, writable}
use Rattle.own.specs.Own.{no_row}
use Rattle.accepted.specs.Accepted as declared
use Rattle.own.proofs.OwnLaws.{no_clash}
use Rattle.words.specs.Slots.{slot_count, Right, write, Slot, row_slot, no_slot}
use Rattle.words.specs.Manual.{decode, Mpu, programmed, Off, unprivileged, HighestPermits}
use Rattle.words.specs.Words.{words_of, slots_in}
use Rattle.words.specs.Unit.{RowAllows, OthersOff, ExactlyTheRows, WordsGiveTheRows, NothingOfAnother, SeparatedInUnit}
use Rattle.words.proofs.SlotLaws.{row_covers, filled_slot}
use Rattle.words.proofs.Programmed.{stay_off}
use Rattle.words.proofs.Separation.{behind, no_two_share}
use Rattle.words.proofs.Reach.{as_programmed}

not_so : (b : Bool) → (b ≡ true → ⊥) → b ≡ false
not_so true never = absurd (never refl)
not_so false never = refl

-- the definition and its words agree
module _ (mpu : Mpu) (right : Right) (x : ℕ) where
  decided : (count : ℕ) → unprivileged mpu count right x ≡ true → HighestPermits mpu count right x
  unfolding unprivileged
  decided zero e = absurd (false≢true e)
  decided (suc n) e =
      elim (Bool-discrete ((decode (mpu.regions n)).covers x) true) [
        | yes covers ↦
            record {
              region = n;
              in_range = omega arith;
              covered = covers;
              permitted = sym (chosen _ _ covers) ∙ e;
              none_above = λ k above below covered. omega arith;
            }
        | no missed ↦
            let lower = decided n (sym (passed _ _ (not_so _ missed)) ∙ e) in
            record {
              region = lower.region;
              in_range = omega arith;
              covered = lower.covered;
              permitted = lower.permitted;
              none_above = λ k above below covered.
                  elim (ℕ_discrete k n) [
                    | yes top ↦ missed (sym (ap (λ (j : ℕ). (decode (mpu.regions j)).covers x) top) ∙ covered)
                    | no under ↦ lower.none_above k above (omega arith) covered
                  ];
            }
      ]

  decides : (count : ℕ) → HighestPermits mpu count right x → unprivileged mpu count right x ≡ true
  unfolding unprivileged
  decides zero h = absurd (omega arith)
  decides (suc n) h =
      elim (ℕ_discrete h.region n) [
        | yes top ↦
            chosen _ _ (sym (ap (λ (j : ℕ). (decode (mpu.regions j)).covers x) top) ∙ h.covered)
            ∙ sym (ap (λ (j : ℕ). (decode (mpu.regions j)).permits right) top)
            ∙ h.permitted
        | no under ↦
            passed _ _ (not_so _ (h.none_above n (omega arith) (omega arith)))
            ∙ decides n (record {
              region = h.region;
              in_range = omega arith;
              covered = h.covered;
              permitted = h.permitted;
              none_above = λ k above below. h.none_above k above (omega arith);
            })
      ]

  pub highest_decides : (count : ℕ) → (unprivileged mpu count right x ≡ true) ↔ HighestPermits mpu count right x
  highest_decides count = (decided count, decides count)

-- ENABLE 0
pub off_covers_nothing : (mpu : Mpu) (k x : ℕ) → Off mpu k → (decode (mpu.regions k)).covers x ≡ true → ⊥
unfolding decode
off_covers_nothing mpu k x off covered = false≢true (rw off at covered)

module _ (p : Plan) (u32 : AllU32 p.rows) (a : declared.AcceptedIf p) (q : ℕ) (known : q ≤ max_partition) where
  module _ (mpu : Mpu) (count : ℕ) (others : OthersOff mpu count) where
    abbrev unit : Mpu
    unit = programmed mpu (words_of p q).slots

    -- only a slot covers an address
    in_slots : (k x : ℕ) → k < count → (decode (unit.regions k)).covers x ≡ true → k < slot_count
    in_slots k x below covered =
        elim (dec_lt k slot_count) [
          | yes slot ↦ slot
          | no past ↦ absurd (off_covers_nothing unit k x ((stay_off p u32 a q mpu count others).off k (omega arith) below) covered)
        ]

    -- each row has its slot
    row_slot_lem : (k : ℕ) → k < length (own_rows p q) → decode (unit.regions k) ≡ row_slot (get_or (own_rows p q) k no_row)
    row_slot_lem k filled =
        as_programmed p u32 a mpu q known k (omega (arith, a.eight_rows_at_most q))
        ∙ filled_slot row_slot no_slot (length (own_rows p q)) (own_rows p q) k filled

    to_row : (right : Right) (x : ℕ) → HighestPermits unit count right x → RowAllows p q right x
    to_row right x h =
        let slot = in_slots h.region x h.in_range h.covered in
        let b = behind p (slots_in mpu p) (as_programmed p u32 a mpu) q known h.region x slot h.covered in
        record {
          row = h.region;
          is_row = b.is_row;
          covered = b.covers;
          allowed = sym (ap (λ (s : Slot). s.permits right) b.is_slot) ∙ h.permitted;
        }

    to_region : (right : Right) (x : ℕ) → RowAllows p q right x → HighestPermits unit count right x
    to_region right x r =
        let slot : r.row < slot_count = omega (arith, a.eight_rows_at_most q, r.is_row) in
        let same = row_slot_lem r.row r.is_row in
        let covers : (decode (unit.regions r.row)).covers x ≡ true = ap (λ (s : Slot). s.covers x) same ∙ (row_covers _ x).1 r.covered in
        record {
          region = r.row;
          in_range = omega (arith, others.for_each_slot);
          covered = covers;
          permitted = ap (λ (s : Slot). s.permits right) same ∙ r.allowed;
          none_above = λ k above below covered.
              no_two_share p a (as_programmed p u32 a mpu) q known r.row k x slot (in_slots k x below covered) (λ here. omega arith) covers covered;
        }

pub words_give_the_rows : WordsGiveTheRows
words_give_the_rows p u32 a q known mpu count others right x =
    let decides = highest_decides (programmed mpu (words_of p q).slots) right x count in (
      λ e. to_row p u32 a q known mpu count others right x (decides.0 e),
      λ r. decides.1 (to_region p u32 a q known mpu count others right x r),
    )

-- two rows of two partitions, one of them writable, share no address
pub nothing_of_another : (p : Plan) → declared.AcceptedIf p → (q : ℕ) (mpu : Mpu) (count : ℕ) → ExactlyTheRows p q mpu count
    → NothingOfAnother p q mpu count
nothing_of_another p a q mpu count exactly other apart right x writes =
    not_so _
    (λ reaches.
    let r = (exactly right x).0 reaches in
    no_clash p a other writes.row q r.row writes.is_row r.is_row (λ same_partition same_row. apart same_partition)
    (record { share = (x, writes.covered, r.covered); belong_or_write = inr (inl (eqb-true _ writable writes.allowed)) }))

pub separated_in_unit : SeparatedInUnit
separated_in_unit p u32 a q other known known-too apart mpu mpu' count others others' right x writes =
    nothing_of_another p a other _ count (words_give_the_rows p u32 a other known-too mpu' count others') q apart right x
    ((words_give_the_rows p u32 a q known mpu count others write x).0 writes)
