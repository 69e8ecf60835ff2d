-- The region registers MPU_RBAR and MPU_RASR of the ARMv7-M manual (PMSAv7): where their fields stand in a word, what a slot with two such
-- words covers and permits to unprivileged code, and what a unit with such regions lets it do at an address.
use Rattle.std.specs.Prelude.{Bool, true, false, cond, not, ◌&&◌, ◌||◌, List, [], ◌∷◌, ◌≡◌, ℕ, zero, suc, ◌+◌, ◌-◌, ◌*◌, ◌/◌, ◌%◌, ◌^◌, ◌<◌, leb, ltb, eqb}
use Rattle.words.specs.declared.Pair.{Pair}
use Rattle.words.specs.Slots.{Right, read, write, execute, Slot}

-- ADDR 31..5, VALID 4, REGION 3..0
pub record Rbar : Type 0 where
  pub addr : ℕ
  pub valid : ℕ
  pub region : ℕ

-- XN 28, AP 26..24, TEX 21..19, S 18, C 17, B 16, SRD 15..8, SIZE 5..1, ENABLE 0; the other bits are reserved
pub record Rasr : Type 0 where
  pub xn : ℕ
  pub ap : ℕ
  pub tex : ℕ
  pub s : ℕ
  pub c : ℕ
  pub b : ℕ
  pub srd : ℕ
  pub size : ℕ
  pub enable : ℕ

-- the words with these fields
abbrev pub rbar_word : Rbar → ℕ
rbar_word f = f.addr * 2 ^ 5 + f.valid * 2 ^ 4 + f.region

abbrev pub rasr_word : Rasr → ℕ
rasr_word f =
    f.xn * 2 ^ 28 + f.ap * 2 ^ 24 + f.tex * 2 ^ 19 + f.s * 2 ^ 18 + f.c * 2 ^ 17 + f.b * 2 ^ 16
    + f.srd * 2 ^ 8 + f.size * 2 ^ 1 + f.enable

-- the other way: `width` bits of a word, from bit `low` up
abbrev pub bits : (width low word : ℕ) → ℕ
bits width low word = word / 2 ^ low % 2 ^ width

abbrev pub rbar_of : ℕ → Rbar
rbar_of w = record { addr = bits 27 5 w; valid = bits 1 4 w; region = bits 4 0 w }

abbrev pub rasr_of : ℕ → Rasr
rasr_of w =
    record {
      xn = bits 1 28 w;
      ap = bits 3 24 w;
      tex = bits 3 19 w;
      s = bits 1 18 w;
      c = bits 1 17 w;
      b = bits 1 16 w;
      srd = bits 8 8 w;
      size = bits 5 1 w;
      enable = bits 1 0 w;
    }

-- a region has 2 ^ (SIZE + 1) bytes (SIZE 0 to 3 are not to be used); its base is ADDR, whose bits below the size do not count
abbrev pub size_of : Rasr → ℕ
size_of a = 2 ^ (a.size + 1)

abbrev pub base_of : Rbar → Rasr → ℕ
base_of b a = b.addr * 2 ^ 5 / size_of a * size_of a

-- in a region of 256 bytes or more, bit i of SRD switches its i-th eighth off
abbrev pub switched_off : Rbar → Rasr → ℕ → Bool
switched_off b a x = leb 256 (size_of a) && eqb (bits 1 ((x - base_of b a) / (size_of a / 8)) a.srd) 1

abbrev pub in_region : Rbar → Rasr → ℕ → Bool
in_region b a x =
    eqb a.enable 1 && leb (base_of b a) x && ltb x (base_of b a + size_of a) && not (switched_off b a x)

-- the manual's table of AP, its unprivileged column: 3 reads and writes; 2, 6 and 7 read; 0, 1 and 5 do neither (4 is not to be used)
abbrev pub may_read : ℕ → Bool
may_read ap = eqb ap 2 || eqb ap 3 || eqb ap 6 || eqb ap 7

abbrev pub may_write : ℕ → Bool
may_write ap = eqb ap 3

-- what cannot be read cannot be executed
abbrev pub may : Rasr → Right → Bool
may a read = may_read a.ap
may a write = may_write a.ap
may a execute = may_read a.ap && eqb a.xn 0

unfoldable pub decode : Pair → Slot
decode w =
    record { covers = in_region (rbar_of w.first) (rasr_of w.second); permits = may (rasr_of w.second) }

-- the protection unit, switched on: which region MPU_RNR selects, and the two words of each region
pub record Mpu : Type 0 where
  pub selected : ℕ
  pub regions : ℕ → Pair

-- a first word with VALID 1 selects the region that it names; both words then go to the region that is selected
abbrev pub selected_by : Mpu → Pair → ℕ
selected_by mpu w =
    cond (eqb (rbar_of w.first).valid 1) (rbar_of w.first).region mpu.selected

abbrev pub written : Mpu → Pair → Mpu
written mpu w =
    record { selected = selected_by mpu w; regions = λ k. cond (eqb k (selected_by mpu w)) w (mpu.regions k) }

-- pairs are written in their order
unfoldable pub programmed : Mpu → List Pair → Mpu
programmed mpu [] = mpu
programmed mpu (w ∷ pairs) = programmed (written mpu w) pairs

-- a pair that goes to region k, whichever was selected
pub record Names (w : Pair) (k : ℕ) : Type 0 where
  pub valid : (rbar_of w.first).valid ≡ 1
  pub region : (rbar_of w.first).region ≡ k

-- a region that is switched off: it covers nothing
abbrev pub Off : Mpu → ℕ → Type 0
Off mpu k = (rasr_of (mpu.regions k).second).enable ≡ 0

-- whether the regions 0, 1, .., count - 1 let unprivileged code do that at address x: the highest-numbered region that covers x decides,
-- and where none covers it nothing is permitted (the default map behind PRIVDEFENA is for privileged code alone). In system space, from
-- 0xE0000000 up, the processor itself permits less: nothing there is executed, and the private peripheral bus has its own rule
unfoldable pub unprivileged : Mpu → (count : ℕ) → Right → (x : ℕ) → Bool
unprivileged mpu zero right x = false
unprivileged mpu (suc n) right x =
    cond ((decode (mpu.regions n)).covers x) ((decode (mpu.regions n)).permits right) (unprivileged mpu n right x)

-- the same in words: one of the regions covers x and permits that, and none above it covers x
pub record HighestPermits (mpu : Mpu) (count : ℕ) (right : Right) (x : ℕ) : Type 0 where
  pub region : ℕ
  pub in_range : region < count
  pub covered : (decode (mpu.regions region)).covers x ≡ true
  pub permitted : (decode (mpu.regions region)).permits right ≡ true
  pub none_above : (k : ℕ) → region < k → k < count → (decode (mpu.regions k)).covers x ≡ true → ⊥
