-- The law of a fold that stops at the first fault: it accepts exactly if each test does, and it refuses with r exactly if the
-- first test that refuses does so with r. By induction on how many tests are left.
-- Assumes nothing.
use mathlib.Core.Bool.{Bool, true, false}
use mathlib.Core.List.{List, [], ◌∷◌, ◌++◌}
use mathlib.Core.Logic.{◌↔◌, ◌⊎◌, inl, inr}
use mathlib.Core.Path.{◌≡◌, refl, sym, ap, ◌∙◌}
use Prim.Native.Nat.{ℕ, zero, suc, ◌+◌, ◌-◌, ◌≤◌, ◌<◌}
use native.Mathlib.Nat.{sub-zero}
use native.Mathlib.Numerals.{add-one}
use native.Mathlib.Decide.{ℕ_discrete}
use native.Mathlib.Omega.{arith}
use lib.ListN.{length, get_or, take, drop, length-append, get_or-append}
use lib.Seq.{split_at, length-take-le, get_or-take, get_or-append_seam}
use Rattle.refusal.specs.declared.Refusal.{Refusal}
use Rattle.refusal.specs.declared.Refusal.TheVariants.{Counts}
use Rattle.refusal.specs.Verdict.{Verdict, accepted}
use Rattle.std.specs.Prelude.{Ok, Err}
use Rattle.refusal.specs.First.{refuse_if, or_else}
use Rattle.verdict.specs.First.{unless_refused, refused, first_fault, FirstAt, upward, test_at, first_of, FirstIn}

pub never_both : {r : Refusal} → accepted ≡ Err r → ⊥
never_both e = let z : ◌≡◌ {A = ℕ} 0 1 = cc in omega arith

pub answers : {A : Type 0} {v : Verdict} (to else : A) → v ≡ accepted → unless_refused v to else ≡ to
answers to else e = ap (λ (v : Verdict). unless_refused v to else) e

pub answers_else : {A : Type 0} {v : Verdict} (to else : A) (r : Refusal) → v ≡ Err r → unless_refused v to else ≡ else
answers_else to else r e = ap (λ (v : Verdict). unless_refused v to else) e

-- one test
pub refuses_if : (fault : Bool) (r : Refusal) → (refuse_if fault r ≡ accepted) ↔ (fault ≡ false)
unfolding refuse_if
refuses_if true r = (λ e. cc, λ e. cc)
refuses_if false r = (λ e. refl, λ e. refl)

pub fault_found : (fault : Bool) (r s : Refusal) → refuse_if fault r ≡ Err s → fault ≡ true
unfolding refuse_if
fault_found true r s e = refl
fault_found false r s e = absurd (never_both e)

pub own_refusal : (fault : Bool) (r s : Refusal) → refuse_if fault r ≡ Err s → r ≡ s
unfolding refuse_if
own_refusal true r s e = cc
own_refusal false r s e = absurd (never_both e)

refuses_true : (r : Refusal) → refuse_if true r ≡ Err r
unfolding refuse_if
refuses_true r = refl

-- inside a list the default does not matter
in_range : (rs : List Refusal) (i : ℕ) (r s : Refusal) → i < length rs → get_or rs i r ≡ get_or rs i s
in_range [] i r s h = absurd (omega arith)
in_range (x ∷ rs) zero r s h = refl
in_range (x ∷ rs) (suc i) r s h = in_range rs i r s (omega arith)

pub not_refused : (v : Verdict) → (refused v ≡ false) ↔ (v ≡ accepted)
unfolding refused
not_refused (Ok _) = (λ e. refl, λ e. refl)
not_refused (Err r) = (λ e. cc, λ e. cc)

-- two in a row
pub both_accept : (v w : Verdict) → (or_else v w ≡ accepted) ↔ ((v ≡ accepted) × (w ≡ accepted))
unfolding or_else
both_accept (Ok _) w = (λ e. (refl, e), λ p. p.1)
both_accept (Err r) w = (λ e. (e, cc), λ p. p.0)

pub one_refuses : (v w : Verdict) (r : Refusal) → or_else v w ≡ Err r → (v ≡ Err r) ⊎ ((v ≡ accepted) × (w ≡ Err r))
unfolding or_else
one_refuses (Ok _) w r e = inr (refl, e)
one_refuses (Err x) w r e = inl e

module _ (test : ℕ → Verdict) where
  pub first_refuses : (first left : ℕ) (r : Refusal) → first_fault test first left ≡ Err r
      → (at : ℕ) × FirstAt test first left r at
  unfolding first_fault or_else
  first_refuses first zero r e = absurd (never_both e)
  first_refuses first (suc left) r e = here_or_later (test first) refl e (first_refuses (suc first) left r)
    where
      here_or_later : (v : Verdict) → test first ≡ v → or_else v (first_fault test (suc first) left) ≡ Err r
          → (first_fault test (suc first) left ≡ Err r → (at : ℕ) × FirstAt test (suc first) left r at)
          → (at : ℕ) × FirstAt test first (suc left) r at
      here_or_later (Ok _) q e later =
          let (at, l) = later e in (
            at,
            record {
              from_first = omega arith;
              before_end = omega arith;
              refuses = l.refuses;
              none_before = λ j low high. elim (ℕ_discrete first j) [ yes same ↦ rw same at q | no after ↦ l.none_before j (omega arith) high ];
            },
          )
      here_or_later (Err x) q e later = (
        first,
        record {
          from_first = omega arith;
          before_end = omega arith;
          refuses = q ∙ e;
          none_before = λ j low high. absurd (omega arith);
        },
      )

  pub refuses_first : (first left : ℕ) (r : Refusal) (at : ℕ) → FirstAt test first left r at
      → first_fault test first left ≡ Err r
  unfolding first_fault or_else
  refuses_first first zero r at h = absurd (omega arith)
  refuses_first first (suc left) r at h =
      elim (ℕ_discrete first at) [
        | yes here ↦ rw (here, h.refuses)
        | no later ↦
            rw (h.none_before first (omega arith) (omega arith))
            (refuses_first (suc first) left r at
            (record {
              from_first = omega arith;
              before_end = omega arith;
              refuses = h.refuses;
              none_before = λ j low high. h.none_before j (omega arith) high;
            }))
      ]

  pub each_accepts : (first left : ℕ) → first_fault test first left ≡ accepted
      → (j : ℕ) → first ≤ j → j < first + left → test j ≡ accepted
  unfolding first_fault or_else
  each_accepts first zero e j low high = absurd (omega arith)
  each_accepts first (suc left) e j low high =
      let p = (both_accept (test first) (first_fault test (suc first) left)).0 e in
      elim (ℕ_discrete first j) [
        | yes here ↦ rw here at p.0
        | no later ↦ each_accepts (suc first) left p.1 j (omega arith) (omega arith)
      ]

  pub all_accept : (first left : ℕ) → ((j : ℕ) → first ≤ j → j < first + left → test j ≡ accepted)
      → first_fault test first left ≡ accepted
  unfolding first_fault or_else
  all_accept first zero each = refl
  all_accept first (suc left) each =
      (both_accept (test first) (first_fault test (suc first) left)).1
      (each first (omega arith) (omega arith), all_accept (suc first) left (λ j low high. each j (omega arith) (omega arith)))

  -- the fold's steps, for a loop that counts i up to n: none is done, the test passes, it refuses, none is left
  pub starts : (n : ℕ) → first_fault test 0 n ≡ first_fault test 0 (n - 0)
  starts n = ap (first_fault test 0) (sym (sub-zero n))

  pub goes_on : (n i : ℕ) → i < n → test i ≡ accepted → first_fault test i (n - i) ≡ first_fault test (i + 1) (n - (i + 1))
  unfolding first_fault or_else
  goes_on n i h e =
      let one_more : n - i ≡ suc (n - suc i) = omega arith in
      rw (add-one, one_more, e)

  pub stops : (n i : ℕ) (r : Refusal) → i < n → test i ≡ Err r → first_fault test i (n - i) ≡ Err r
  unfolding first_fault or_else
  stops n i r h e =
      let one_more : n - i ≡ suc (n - suc i) = omega arith in
      rw (one_more, e)

  pub ends : (n i : ℕ) → n ≤ i → first_fault test i (n - i) ≡ accepted
  unfolding first_fault
  ends n i h =
      let none : n - i ≡ 0 = omega arith in
      rw none

pub or_accepted : (v : Verdict) → or_else v accepted ≡ v
unfolding or_else
or_accepted (Ok _) = refl
or_accepted (Err r) = refl

pub or_assoc : (u v w : Verdict) → or_else (or_else u v) w ≡ or_else u (or_else v w)
unfolding or_else
or_assoc (Ok _) v w = refl
or_assoc (Err r) v w = refl

-- a fold whose tests all refuse with r is one test for r
pub one_kind : (fault : ℕ → Bool) (r : Refusal) (first left : ℕ)
    → refuse_if (refused (first_fault (λ i. refuse_if (fault i) r) first left)) r ≡ first_fault (λ i. refuse_if (fault i) r) first left
unfolding first_fault or_else refuse_if refused
one_kind fault r first zero = refl
one_kind fault r first (suc left) = step (fault first) (one_kind fault r (suc first) left)
  where
    step : (b : Bool)
        → refuse_if (refused (first_fault (λ i. refuse_if (fault i) r) (suc first) left)) r ≡ first_fault (λ i. refuse_if (fault i) r) (suc first) left
        → refuse_if (refused (or_else (refuse_if b r) (first_fault (λ i. refuse_if (fault i) r) (suc first) left))) r
        ≡ or_else (refuse_if b r) (first_fault (λ i. refuse_if (fault i) r) (suc first) left)
    step true e = refl
    step false e = e

-- a fold from the next place on is one over the later tests
later : (test : ℕ → Verdict) (first left : ℕ) → first_fault test (suc first) left ≡ first_fault (λ i. test (suc i)) first left
unfolding first_fault
later test first zero = refl
later test first (suc left) = ap (or_else (test (suc first))) (later test (suc first) left)

-- the same fold over a list of refusals: lists one after the other, place by place, and the law
module _ (wrong : Refusal → Bool) where
  pub first_of_cons : (x : Refusal) (xs : List Refusal) → first_of wrong (x ∷ xs) ≡ or_else (refuse_if (wrong x) x) (first_of wrong xs)
  unfolding first_of first_fault test_at
  first_of_cons x xs = ap (or_else (refuse_if (wrong x) x)) (later (test_at wrong (x ∷ xs)) 0 (length xs))

  pub first_of_both : (xs ys : List Refusal) → first_of wrong (xs ++ ys) ≡ or_else (first_of wrong xs) (first_of wrong ys)
  unfolding first_of first_fault or_else
  first_of_both [] ys = refl
  first_of_both (x ∷ xs) ys =
      first_of_cons x (xs ++ ys)
      ∙ ap (or_else (refuse_if (wrong x) x)) (first_of_both xs ys)
      ∙ sym (or_assoc (refuse_if (wrong x) x) (first_of wrong xs) (first_of wrong ys))
      ∙ ap (λ (v : Verdict). or_else v (first_of wrong ys)) (sym (first_of_cons x xs))

  pub first_upward : (at : ℕ → List Refusal) (first left : ℕ)
      → first_of wrong (upward at first left) ≡ first_fault (λ i. first_of wrong (at i)) first left
  unfolding upward first_fault first_of
  first_upward at first zero = refl
  first_upward at first (suc left) =
      first_of_both (at first) (upward at (suc first) left) ∙ ap (or_else (first_of wrong (at first))) (first_upward at (suc first) left)

  pub first_in : (order : List Refusal) (r : Refusal) → first_of wrong order ≡ Err r → FirstIn wrong order r
  unfolding first_of test_at
  first_in order r e =
      let (at, f) = first_refuses (test_at wrong order) 0 (length order) r e in
      let reached : at < length order = omega arith in
      let this = own_refusal (wrong (get_or order at Counts)) (get_or order at Counts) r f.refuses in
      record {
        before = take at order;
        after = drop (suc at) order;
        stands = split_at order at Counts reached ∙ ap (λ (s : Refusal). take at order ++ (s ∷ drop (suc at) order)) this;
        is_wrong = sym (ap wrong this) ∙ fault_found (wrong (get_or order at Counts)) (get_or order at Counts) r f.refuses;
        none_before =
            λ i h.
            let below : i < at = omega (arith, length-take-le at order (omega arith)) in
            ap wrong (get_or-take at order i r below ∙ in_range order i r Counts (omega arith)) ∙ (refuses_if _ _).0 (f.none_before i (omega arith) below);
      }

  pub in_first : (order : List Refusal) (r : Refusal) → FirstIn wrong order r → first_of wrong order ≡ Err r
  unfolding first_of test_at
  in_first order r f =
      let long : length order ≡ length f.before + suc (length f.after) = ap length f.stands ∙ length-append f.before (r ∷ f.after) in
      let this : get_or order (length f.before) Counts ≡ r = ap (λ (o : List Refusal). get_or o (length f.before) Counts) f.stands ∙ get_or-append_seam f.before r f.after Counts in
      refuses_first (test_at wrong order) 0 (length order) r (length f.before)
      (record {
        from_first = omega arith;
        before_end = omega arith;
        refuses = ap (λ (s : Refusal). refuse_if (wrong s) s) this ∙ ap (λ (b : Bool). refuse_if b r) f.is_wrong ∙ refuses_true r;
        none_before =
            λ i low h.
            (refuses_if _ _).1
            (ap wrong (ap (λ (o : List Refusal). get_or o i Counts) f.stands ∙ get_or-append f.before (r ∷ f.after) Counts i h ∙ in_range f.before i Counts r h) ∙ f.none_before i h);
      })
