-- What a whole switch answers where its tests are known.
-- Assumes nothing.
use mathlib.Core.Bool.{true, false, true≢false}
use mathlib.Core.List.{[], ◌∷◌}
use mathlib.Core.Logic.{◌⊎◌, ⊎_map}
use mathlib.Core.Path.{◌≡◌, refl, sym, ◌∙◌}
use Prim.Native.Nat.{ℕ}
use native.Mathlib.Decide.{ℕ_discrete}
use borrow.Author.Tests.{eq-eqb, ne_eqb, not-true}
use Rattle.refusal.specs.declared.Refusal.{Refusal}
use Rattle.refusal.specs.declared.Refusal.TheVariants.{NoCallOpen}
use Rattle.refusal.specs.Verdict.{accepted}
use Rattle.std.specs.Prelude.{None, Err}
use Rattle.refusal.specs.First.{refuse_if, or_else}
use Rattle.verdict.proofs.First.{fault_found, own_refusal, one_refuses}
use Rattle.protocol.specs.declared.Stage.TheVariants.{SaveCtx}
use Rattle.switcher.specs.declared.Switcher.{Switcher}
use Rattle.switcher.specs.Switch.{in_phase, state_verdict, saved, swapped_in, resumed}
use Rattle.switcher.proofs.SwitchLaws.{in_phase_lem}
use Rattle.run_switch.specs.declared.Switched.{Switched}
use Rattle.run_switch.specs.Seam.{calls_words}
use Rattle.run_switch.specs.RunSwitch.{switch_verdict, calls_made, calls_of, left_after, outgoing_of, incoming_of, run_switch_of}

module _ (s : Switcher) where
  pub switch_refused : (r : Refusal) → state_verdict s ≡ Err r → switch_verdict s ≡ Err r
  unfolding switch_verdict or_else
  switch_refused r e = rw e

  pub switch_outside : state_verdict s ≡ accepted → in_phase s.phase SaveCtx ≡ false → switch_verdict s ≡ Err NoCallOpen
  unfolding switch_verdict or_else refuse_if
  switch_outside e h = rw (e, h)

  pub switch_due : state_verdict s ≡ accepted → in_phase s.phase SaveCtx ≡ true → switch_verdict s ≡ accepted
  unfolding switch_verdict or_else refuse_if
  switch_due e h = rw (e, h)

  -- so it refuses as the state does, or else with 13
  pub switch_refuses : (r : Refusal) → switch_verdict s ≡ Err r
      → (state_verdict s ≡ Err r) ⊎ ((state_verdict s ≡ accepted) × (NoCallOpen ≡ r) × (s.phase ≡ SaveCtx → ⊥))
  unfolding switch_verdict
  switch_refuses r e =
      ⊎_map (λ q. q)
      (λ q. (
        q.0,
        own_refusal _ NoCallOpen r q.1,
        λ p. true≢false (sym ((in_phase_lem s.phase SaveCtx).1 p) ∙ not-true _ (fault_found _ NoCallOpen r q.1)),
      ))
      (one_refuses (state_verdict s) _ r e)

-- the words of one call, two and three
module _ (outgoing incoming : ℕ) where
  pub one_call : calls_words (calls_of 1 outgoing incoming) ≡ 1 ∷ outgoing ∷ []
  unfolding calls_of
  one_call = refl

  pub two_calls : calls_words (calls_of 2 outgoing incoming) ≡ 1 ∷ outgoing ∷ 2 ∷ incoming ∷ []
  unfolding calls_of
  two_calls = refl

  pub three_calls : calls_words (calls_of 3 outgoing incoming) ≡ 1 ∷ outgoing ∷ 2 ∷ incoming ∷ 3 ∷ incoming ∷ []
  unfolding calls_of
  three_calls = refl

-- the answer of an accepted switch, by the state it ends in and how many calls it made
abbrev pub ended : (state end : Switcher) (made : ℕ) → Switched
ended s end made = record { state = end; calls = calls_of made (outgoing_of s) (incoming_of s); verdict = accepted }

-- a switch that is refused makes no call, and the state comes back
module _ (s : Switcher) (save swap resume : ℕ) where
  pub run_verdict_lem : (run_switch_of s save swap resume).verdict ≡ switch_verdict s
  unfolding run_switch_of
  run_verdict_lem = refl

  pub run_refused : (r : Refusal) → switch_verdict s ≡ Err r
      → run_switch_of s save swap resume
      ≡ record { state = s; calls = None ∷ None ∷ None ∷ []; verdict = Err r }
  unfolding run_switch_of calls_made left_after calls_of
  run_refused r e = rw e

  -- one that is accepted is one of four: the save, the swap, the resume is the first to get a nonzero status, or each got zero
  pub run_switches : (P : Switched → Type 0) → switch_verdict s ≡ accepted
      → ((save ≡ 0 → ⊥) → P (ended s s 1))
      → (save ≡ 0 → (swap ≡ 0 → ⊥) → P (ended s (saved s) 2))
      → (save ≡ 0 → swap ≡ 0 → (resume ≡ 0 → ⊥) → P (ended s (swapped_in (saved s)) 3))
      → (save ≡ 0 → swap ≡ 0 → resume ≡ 0 → P (ended s (resumed (swapped_in (saved s))) 3))
      → P (run_switch_of s save swap resume)
  unfolding run_switch_of calls_made left_after
  run_switches P e save-fails swap-fails resume-fails none-fails =
      rw e
      (elim (ℕ_discrete save 0) [
        | no a ↦ rw (ne_eqb save 0 a) (save-fails a)
        | yes a ↦
            elim (ℕ_discrete swap 0) [
              | no b ↦ rw (eq-eqb save 0 a, ne_eqb swap 0 b) (swap-fails a b)
              | yes b ↦
                  elim (ℕ_discrete resume 0) [
                    | no c ↦ rw (eq-eqb save 0 a, eq-eqb swap 0 b, ne_eqb resume 0 c) (resume-fails a b c)
                    | yes c ↦ rw (eq-eqb save 0 a, eq-eqb swap 0 b, eq-eqb resume 0 c) (none-fails a b c)
                  ]
            ]
      ])
