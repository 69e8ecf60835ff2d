-- What a slot of a memory protection unit covers and what it permits there to unprivileged code, on any controller; what a row says of the
-- same (document 01, "A plan": access 0 read, 1 read and write, 2 read and execute).
use Rattle.std.specs.Prelude.{Bool, true, false, cond, ◌&&◌, List, ◌≡◌, ℕ, ◌+◌, ◌≤◌, ◌<◌, leb, ltb, eqb, length, get_or}
use Rattle.records.specs.declared.Row.{Row}
use Rattle.plan.specs.Plan.{Plan, own_rows}
use Rattle.records.specs.Records.{max_partition, writable, executable}
use Rattle.own.specs.Own.{no_row}

abbrev pub slot_count : ℕ
slot_count = 8

pub data Right : Type 0 where
  read write execute : Right

pub record Slot : Type 0 where
  pub covers : ℕ → Bool
  pub permits : Right → Bool

-- address x can be reached with a right if one of the slots covers it and permits that
pub record Reachable (slots : ℕ → Slot) (right : Right) (x : ℕ) : Type 0 where
  pub slot : ℕ
  pub in_range : slot < slot_count
  pub covered : (slots slot).covers x ≡ true
  pub permitted : (slots slot).permits right ≡ true

-- what a row says: it covers its addresses, and permits what its access names
abbrev pub allows : ℕ → Right → Bool
allows access read = true
allows access write = eqb access writable
allows access execute = eqb access executable

abbrev pub row_slot : Row → Slot
row_slot r = record { covers = λ x. leb r.base x && ltb x (r.base + r.size); permits = allows r.access }

abbrev pub no_slot : Slot
no_slot = record { covers = λ x. false; permits = λ right. false }

-- of `count` rows, what row k gives to slot k; past them, what a free slot is
unfoldable pub at_slot : {A : Type 0} → (Row → A) → A → (count : ℕ) → List Row → ℕ → A
at_slot row free count rows k = cond (ltb k count) (row (get_or rows k no_row)) free

abbrev pub row_slots : List Row → ℕ → Slot
row_slots own k = at_slot row_slot no_slot (length own) own k

-- below, `slots q` are the slots while partition q runs; they are as planned if they are q's rows, no more and no less
abbrev pub AsPlanned : Plan → (ℕ → ℕ → Slot) → Type 0
AsPlanned p slots = (q : ℕ) → q ≤ max_partition → (k : ℕ) → k < slot_count → slots q k ≡ row_slots (own_rows p q) k

-- no address that one partition may write can be read, written or executed while another runs
abbrev pub Separated : (slots others : ℕ → ℕ → Slot) → Type 0
Separated slots others =
    (q other : ℕ) → q ≤ max_partition → other ≤ max_partition → (q ≡ other → ⊥)
    → (right : Right) (x : ℕ) → Reachable (slots q) write x → Reachable (others other) right x → ⊥

-- no two slots of one partition share an address
abbrev pub NoTwoShare : (ℕ → ℕ → Slot) → Type 0
NoTwoShare slots =
    (q : ℕ) → q ≤ max_partition → (j k x : ℕ) → j < slot_count → k < slot_count → (j ≡ k → ⊥)
    → (slots q j).covers x ≡ true → (slots q k).covers x ≡ true → ⊥
