-- What a test says of the numbers it was made on.
-- Assumes nothing.
use mathlib.Core.Bool.{Bool, true, false, cond, not, ◌&&◌, ◌||◌, true≢false, false≢true}
use mathlib.Core.Logic.{◌↔◌, ◌⊎◌, inl, inr}
use mathlib.Core.Path.{◌≡◌, refl, ap}
use Prim.Native.Nat.{ℕ, ◌≤◌, ◌<◌}
use native.Mathlib.Omega.{arith}
use borrow.Author.Tests.{eq-eqb, ne_eqb, lt-ltb, le-ltb, eqb-true, eqb-false, ltb-true, ltb-false, not-true, not-false}
use lib.Dec.{eqb, ltb}

-- one that finds no fault
pub equal : (a b : ℕ) → (not (eqb a b) ≡ false) ↔ (a ≡ b)
equal a b = (λ e. eqb-true a b (not-false (eqb a b) e), λ e. ap not (eq-eqb a b e))

pub differs : (a b : ℕ) → (eqb a b ≡ false) ↔ (a ≡ b → ⊥)
differs a b = (eqb-false a b, ne_eqb a b)

pub positive : (a : ℕ) → (eqb a 0 ≡ false) ↔ (0 < a)
positive a = (λ e. let no_way = eqb-false a 0 e in omega arith, λ h. ne_eqb a 0 (λ e. omega arith))

pub at_most : (a b : ℕ) → (ltb a b ≡ false) ↔ (b ≤ a)
at_most a b = (ltb-false a b, le-ltb a b)

pub neither : (a b : Bool) → (a || b ≡ false) ↔ ((a ≡ false) × (b ≡ false))
neither true b = (λ e. (e, cc), λ p. p.0)
neither false b = (λ e. (refl, e), λ p. p.1)

-- one that finds a fault
pub found : {P : Type 0} (b : Bool) → (b ≡ false) ↔ P → (b ≡ true) ↔ (P → ⊥)
found true none = (λ e p. true≢false (none.1 p), λ n. refl)
found false none = (λ e. absurd (false≢true e), λ n. absurd (n (none.0 refl)))

pub same : (a b : ℕ) → (eqb a b ≡ true) ↔ (a ≡ b)
same a b = (eqb-true a b, eq-eqb a b)

pub above : (a b : ℕ) → (ltb a b ≡ true) ↔ (a < b)
above a b = (ltb-true a b, lt-ltb a b)

pub either : (a b : Bool) → a || b ≡ true → (a ≡ true) ⊎ (b ≡ true)
either true b e = inl refl
either false b e = inr e

pub not_same : (a b : ℕ) → (not (eqb a b) ≡ true) ↔ (a ≡ b → ⊥)
not_same a b = (λ e. eqb-false a b (not-true (eqb a b) e), λ n. ap not (ne_eqb a b n))

-- two tests, by what each says
pub both : {P Q : Type 0} (a b : Bool) → (a ≡ true) ↔ P → (b ≡ true) ↔ Q → (a && b ≡ true) ↔ (P × Q)
both true b p q = (λ e. (p.0 refl, q.0 e), λ h. q.1 h.1)
both false b p q = (λ e. absurd (false≢true e), λ h. p.1 h.0)

pub one_of : {P Q : Type 0} (a b : Bool) → (a ≡ true) ↔ P → (b ≡ true) ↔ Q → (a || b ≡ true) ↔ (P ⊎ Q)
one_of true b p q = (λ e. inl (p.0 refl), λ h. refl)
one_of false b p q = (λ e. inr (q.0 e), λ h. elim h [ inl x ↦ absurd (false≢true (p.1 x)) | inr y ↦ q.1 y ])

-- one of two, as a test says
pub chosen : {A : Type 0} {b : Bool} (x y : A) → b ≡ true → cond b x y ≡ x
chosen x y e = ap (λ c. cond c x y) e

pub passed : {A : Type 0} {b : Bool} (x y : A) → b ≡ false → cond b x y ≡ y
passed x y e = ap (λ c. cond c x y) e

-- one of two numbers, as a test says, is at most m if both are
pub either_at_most : (b : Bool) {x y m : ℕ} → x ≤ m → y ≤ m → cond b x y ≤ m
either_at_most true x-small y-small = x-small
either_at_most false x-small y-small = y-small
