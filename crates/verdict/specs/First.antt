-- The first refusal among tests that are made in an order (document 01, "Refusal numbers and their place", "Order"), and what is answered where a verdict refuses.
use Rattle.std.specs.Prelude.{Bool, true, false, List, [], ◌∷◌, ◌++◌, ◌≡◌, ℕ, zero, suc, ◌+◌, ◌≤◌, ◌<◌, length, get_or, Ok, Err}
use Rattle.refusal.specs.declared.Refusal.{Refusal}
use Rattle.refusal.specs.declared.Refusal.TheVariants.{Counts}
use Rattle.refusal.specs.Verdict.{Verdict, accepted}
use Rattle.refusal.specs.First.{refuse_if, or_else}

-- what is answered where it accepts, and what where it refuses
abbrev pub unless_refused : {A : Type 0} → Verdict → (to else : A) → A
unless_refused (Ok _) to else = to
unless_refused (Err r) to else = else

-- whether it refuses
unfoldable pub refused : Verdict → Bool
refused (Ok _) = false
refused (Err r) = true

-- the first refusal among the tests from `first` on, `left` of them
unfoldable pub first_fault : (ℕ → Verdict) → ℕ → ℕ → Verdict
first_fault test first zero = accepted
first_fault test first (suc left) = or_else (test first) (first_fault test (suc first) left)

-- the test at place `at` refuses with r, and each before it, from `first` on, accepts
pub record FirstAt (test : ℕ → Verdict) (first left : ℕ) (r : Refusal) (at : ℕ) : Type 0 where
  pub from_first : first ≤ at
  pub before_end : at < first + left
  pub refuses : test at ≡ Err r
  pub none_before : (j : ℕ) → first ≤ j → j < at → test j ≡ accepted

-- a list of refusals in the order in which they are looked for: those of place `first`, then those of the next, `left` places
unfoldable pub upward : (ℕ → List Refusal) → ℕ → ℕ → List Refusal
upward at first zero = []
upward at first (suc left) = at first ++ upward at (suc first) left

-- the first refusal of such a list for which there is a reason: the same fold, over the list's places (`Counts` would stand past the
-- list's end, where nothing looks)
unfoldable pub test_at : (Refusal → Bool) → List Refusal → ℕ → Verdict
test_at wrong order i = refuse_if (wrong (get_or order i Counts)) (get_or order i Counts)

unfoldable pub first_of : (Refusal → Bool) → List Refusal → Verdict
first_of wrong order = first_fault (test_at wrong order) 0 (length order)

-- r stands in the order with a reason, and nothing that stands before it has one
pub record FirstIn (wrong : Refusal → Bool) (order : List Refusal) (r : Refusal) : Type 0 where
  pub before : List Refusal
  pub after : List Refusal
  pub stands : order ≡ before ++ (r ∷ after)
  pub is_wrong : wrong r ≡ true
  pub none_before : (i : ℕ) → i < length before → wrong (get_or before i r) ≡ false
