-- What the unit lets unprivileged code do once the words of a partition are written to it: exactly what the partition's rows say, and
-- nothing elsewhere (document 01, "Region words" and "A plan"; the ARMv7-M manual on which region decides).
use Rattle.std.specs.Prelude.{true, false, ◌↔◌, ◌≡◌, ℕ, ◌≤◌, ◌<◌, length, get_or}
use Rattle.plan.specs.Plan.{Plan, own_rows}
use Rattle.records.specs.Records.{AllU32, max_partition}
use Rattle.own.specs.Own.{no_row}
use Rattle.accepted.specs.Accepted.{AcceptedIf}
use Rattle.row.specs.Addresses.{Covers}
use Rattle.words.specs.Slots.{slot_count, Right, write, allows}
use Rattle.words.specs.Manual.{Mpu, programmed, Off, unprivileged}
use Rattle.words.specs.Words.{words_of}

-- one of partition q's rows covers address x, and its access allows the right
pub record RowAllows (p : Plan) (q : ℕ) (right : Right) (x : ℕ) : Type 0 where
  pub row : ℕ
  pub is_row : row < length (own_rows p q)
  pub covered : Covers (get_or (own_rows p q) row no_row) x
  pub allowed : allows (get_or (own_rows p q) row no_row).access right ≡ true

-- a unit of `count` regions (the manual's have 8 or 16) has one for each slot, and its other regions are off
pub record OthersOff (mpu : Mpu) (count : ℕ) : Type 0 where
  pub for_each_slot : slot_count ≤ count
  pub off : (k : ℕ) → slot_count ≤ k → k < count → Off mpu k

-- at each address and with each right the unit says yes if a row of q does, and no else
abbrev pub ExactlyTheRows : Plan → (q : ℕ) → Mpu → (count : ℕ) → Type 0
ExactlyTheRows p q mpu count =
    (right : Right) (x : ℕ) → (unprivileged mpu count right x ≡ true) ↔ RowAllows p q right x

-- whatever the regions 0 to 7 held
abbrev pub WordsGiveTheRows : Type 0
WordsGiveTheRows =
    (p : Plan) → AllU32 p.rows → AcceptedIf p → (q : ℕ) → q ≤ max_partition → (mpu : Mpu) (count : ℕ) → OthersOff mpu count
    → ExactlyTheRows p q (programmed mpu (words_of p q).slots) count

-- so nothing that the rows of another partition let it write can be read, written or executed
abbrev pub NothingOfAnother : Plan → (q : ℕ) → Mpu → (count : ℕ) → Type 0
NothingOfAnother p q mpu count =
    (other : ℕ) → (other ≡ q → ⊥) → (right : Right) (x : ℕ) → RowAllows p other write x → unprivileged mpu count right x ≡ false

-- "No address that one partition may write can be reached under another's words", by what two units answer, or one at two moments
abbrev pub SeparatedInUnit : Type 0
SeparatedInUnit =
    (p : Plan) → AllU32 p.rows → AcceptedIf p → (q other : ℕ) → q ≤ max_partition → other ≤ max_partition → (q ≡ other → ⊥)
    → (mpu mpu' : Mpu) (count : ℕ) → OthersOff mpu count → OthersOff mpu' count → (right : Right) (x : ℕ)
    → unprivileged (programmed mpu (words_of p q).slots) count write x ≡ true
    → unprivileged (programmed mpu' (words_of p other).slots) count right x ≡ false
