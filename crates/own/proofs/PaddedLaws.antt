-- An array that is filled from the front: an element more goes to the first free place.
-- Assumes nothing.
use mathlib.Core.List.{List, [], ◌∷◌, ◌++◌, append-nil, append_assoc}
use mathlib.Core.Path.{◌≡◌, sym, ap, ◌∙◌}
use Prim.Native.Nat.{ℕ, suc, ◌-◌, ◌<◌}
use native.Mathlib.Omega.{arith}
use lib.ListN.{length, get_or, set, replicate, length-append, get_or-append}
use lib.Seq.{set-append_seam}
use Rattle.own.specs.Own.{padded}

module _ {A : Type 0} (n : ℕ) (d : A) where
  pub one_more : (list : List A) (a : A) → length list < n → set (padded n d list) (length list) a ≡ padded n d (list ++ (a ∷ []))
  unfolding padded
  one_more list a room =
      let left = n - length (list ++ (a ∷ [])) in
      let one_less : n - length list ≡ suc left = omega (arith, length-append list (a ∷ [])) in
      ap (λ (m : ℕ). set (list ++ replicate m d) (length list) a) one_less
      ∙ set-append_seam list d (replicate left d) a
      ∙ sym (append_assoc list (a ∷ []) (replicate left d))

  pub full : (list : List A) → length list ≡ n → padded n d list ≡ list
  unfolding padded
  full list e =
      let none : n - length list ≡ 0 = omega arith in
      ap (λ (m : ℕ). list ++ replicate m d) none ∙ append-nil list

  pub padded_at : (list : List A) (k : ℕ) → k < length list → get_or (padded n d list) k d ≡ get_or list k d
  unfolding padded
  padded_at list k h = get_or-append list _ d k h
