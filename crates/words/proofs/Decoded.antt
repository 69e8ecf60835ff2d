-- What a slot of the words covers and permits is what its row says, and a free slot covers nothing: the fields are read back, and the
-- manual's rules are worked out on them.
-- Assumes nothing.
use mathlib.Core.Bool.{Bool, true, false, not, ◌&&◌, and-true, and-false}
use mathlib.Core.Path.{◌≡◌, refl, sym, ap, ◌∙◌}
use Prim.Native.Nat.{ℕ, ◌+◌, ◌-◌, ◌*◌, ◌/◌, ◌%◌, ◌^◌, ◌≤◌, ◌<◌}
use native.Mathlib.Nat.{zero-div, mul_assoc}
use native.Mathlib.Decide.{ℕ_discrete}
use native.Mathlib.Omega.{arith}
use borrow.Author.Tests.{eq-eqb, ne_eqb}
use lib.Count.{count_trailing_zeros}
use lib.Dec.{leb, ltb, eqb}
use lib.Pow.{pow-add, shl-shr}
use Rattle.records.specs.declared.Row.{Row}
use Rattle.records.specs.Records.{writable, executable}
use Rattle.row.specs.Addresses.{MultipleOf}
use Rattle.words.specs.Slots.{Right, read, write, execute, allows, row_slot, no_slot}
use Rattle.words.specs.Manual.{rasr_word, rbar_of, rasr_of, size_of, base_of, switched_off, in_region, may_read, may_write, may, decode}
use Rattle.words.specs.Words.{size_field, ap_of, xn_of, read_ap, write_ap, row_rbar, row_rasr, row_pair, free_pair, sums}
use Rattle.words.proofs.WordsLaws.{ap_at_most, xn_at_most}
use Rattle.words.proofs.Fields.{rbar_back, rasr_back}
use Rattle.words.proofs.Zeros.{zeros_of_power}

-- a row whose size is a power of two from 32 on, whose base is a multiple of it, and whose numbers are words
pub record InWords (r : Row) : Type 0 where
  pub exponent : ℕ
  pub is_power : r.size ≡ 2 ^ exponent
  pub from_32 : 5 ≤ exponent
  pub in_a_word : exponent < 32
  pub base_is_multiple : MultipleOf r.size r.base
  pub base_in_a_word : r.base < 2 ^ 32

-- what AP and XN permit is what the access names
reads : (access : ℕ) → may_read (ap_of access) ≡ true
reads access =
    elim (ℕ_discrete access writable) [
      | yes writes ↦ rw (eq-eqb access writable writes) refl
      | no only-reads ↦ rw (ne_eqb access writable only-reads) refl
    ]

permitted : (r : Row) (right : Right) → may (row_rasr r) right ≡ allows r.access right
permitted r read = reads r.access
permitted r write =
    elim (ℕ_discrete r.access writable) [
      | yes writes ↦ rw (eq-eqb r.access writable writes) refl
      | no only-reads ↦ rw (ne_eqb r.access writable only-reads) refl
    ]
permitted r execute =
    ap (λ (readable : Bool). readable && eqb (xn_of r.access) 0) (reads r.access)
    ∙ elim (ℕ_discrete r.access executable) [
      | yes executes ↦ rw (eq-eqb r.access executable executes) refl
      | no never ↦ rw (ne_eqb r.access executable never) refl
    ]

-- for the values that AP has here, document 01's rule and the manual's table agree
pub reading_rule : (access : ℕ) → (may_read (ap_of access) ≡ read_ap (ap_of access)) × (may_write (ap_of access) ≡ write_ap (ap_of access))
reading_rule access =
    elim (ℕ_discrete access writable) [
      | yes writes ↦ (rw (eq-eqb access writable writes) refl, rw (eq-eqb access writable writes) refl)
      | no reads ↦ (rw (ne_eqb access writable reads) refl, rw (ne_eqb access writable reads) refl)
    ]

module _ (k : ℕ) (r : Row) (fit : InWords r) where
  zeros_are : count_trailing_zeros 32 r.size ≡ fit.exponent
  zeros_are = ap (count_trailing_zeros 32) fit.is_power ∙ zeros_of_power 32 fit.exponent fit.in_a_word

  size_is : size_of (row_rasr r) ≡ r.size
  size_is =
      let up : size_field r.size + 1 ≡ fit.exponent = omega (arith, zeros_are) in
      ap (λ (n : ℕ). 2 ^ n) up ∙ sym fit.is_power

  -- 32 divides the base, so ADDR loses nothing
  base_in_32s : r.base / 2 ^ 5 * 2 ^ 5 ≡ r.base
  base_in_32s =
      let (m, multiple) = fit.base_is_multiple in
      let a = m * 2 ^ (fit.exponent - 5) in
      let power : r.size ≡ 2 ^ (fit.exponent - 5) * 2 ^ 5 =
      fit.is_power ∙ ap (λ (n : ℕ). 2 ^ n) (omega arith) ∙ pow-add 2 (fit.exponent - 5) 5 in
      let in-32s : r.base ≡ a * 2 ^ 5 = multiple ∙ ap (λ (n : ℕ). m * n) power ∙ sym (mul_assoc m (2 ^ (fit.exponent - 5)) (2 ^ 5)) in
      (λ j. in-32s j / 2 ^ 5 * 2 ^ 5) ∙ ap (λ (n : ℕ). n * 2 ^ 5) (shl-shr a 5) ∙ sym in-32s

  base_is : base_of (row_rbar k r) (row_rasr r) ≡ r.base
  base_is =
      let (m, multiple) = fit.base_is_multiple in
      let in-sizes : r.base ≡ m * 2 ^ fit.exponent = multiple ∙ ap (λ (n : ℕ). m * n) fit.is_power in
      (λ j. (base_in_32s ∙ in-sizes) j / (size_is ∙ fit.is_power) j * (size_is ∙ fit.is_power) j)
      ∙ ap (λ (n : ℕ). n * 2 ^ fit.exponent) (shl-shr m fit.exponent)
      ∙ sym in-sizes

  -- SRD is 0
  none_off : (x : ℕ) → switched_off (row_rbar k r) (row_rasr r) x ≡ false
  none_off x =
      let i = (x - base_of (row_rbar k r) (row_rasr r)) / (size_of (row_rasr r) / 8) in
      ap (λ (n : ℕ). leb 256 (size_of (row_rasr r)) && eqb n 1) (ap (λ (n : ℕ). n % 2) (zero-div (2 ^ i)))
      ∙ and-false (leb 256 (size_of (row_rasr r)))

  in_region_lem : (x : ℕ) → in_region (row_rbar k r) (row_rasr r) x ≡ leb r.base x && ltb x (r.base + r.size)
  in_region_lem x =
      (λ j. leb (base_is j) x && ltb x (base_is j + size_is j) && not (none_off x j))
      ∙ and-true (leb r.base x && ltb x (r.base + r.size))

  -- the two words, read back field by field
  pub first_back : k < 16 → rbar_of (row_pair k r).first ≡ row_rbar k r
  unfolding row_pair
  first_back h = rbar_back (row_rbar k r) (record { addr = omega (arith, fit.base_in_a_word); valid = omega arith; region = h })

  pub second_back : rasr_of (row_pair k r).second ≡ row_rasr r
  unfolding row_pair
  second_back =
      rasr_back (row_rasr r)
      (record {
        xn = omega (arith, xn_at_most r.access);
        ap = omega (arith, ap_at_most r.access);
        tex = omega arith;
        s = omega arith;
        c = omega arith;
        b = omega arith;
        srd = omega arith;
        size = omega (arith, zeros_are, fit.in_a_word);
        enable = omega arith;
      })

  -- the fields add up to document 01's sums
  pub row_sums : row_pair k r ≡ sums k r
  unfolding row_pair
  row_sums = λ j. record { first = base_in_32s j + 16 + k; second = second j }
    where
      second : rasr_word (row_rasr r) ≡ (sums k r).second
      second = omega arith

  -- a slot with a row: no more and no less than the row says
  pub slot_is_row : k < 16 → decode (row_pair k r) ≡ row_slot r
  unfolding decode
  slot_is_row h =
      (λ j. record { covers = in_region (first_back h j) (second_back j); permits = may (second_back j) })
      ∙ (λ j. record { covers = λ x. in_region_lem x j; permits = λ right. permitted r right j })

-- a second word of 0 switches a slot off, whatever the first: it covers nothing and permits nothing
pub switched_off_lem : (first : ℕ) → decode (record { first = first; second = 0 }) ≡ no_slot
unfolding decode
switched_off_lem first = λ j. record { covers = λ x. false; permits = λ right. none right j }
  where
    none : (right : Right) → may (rasr_of 0) right ≡ false
    none read = refl
    none write = refl
    none execute = refl

pub free_covers_nothing : (k : ℕ) → decode (free_pair k) ≡ no_slot
unfolding free_pair
free_covers_nothing k = switched_off_lem (free_pair k).first
