-- Both say of the same numbers that four windows follow one another: the port by `frame_inv`, the plan by its verdict, to which the
-- owners and an empty list of rows add nothing.
-- Assumes nothing.
use mathlib.Core.Logic.{◌↔◌}
use mathlib.Core.Path.{◌≡◌, refl, sym, ap, ◌∙◌}
use Prim.Native.Nat.{ℕ, zero, suc, ◌<◌}
use native.Mathlib.Decide.{dec_lt}
use native.Mathlib.Omega.{arith}
use Rattle.refusal.specs.Verdict.{Verdict, accepted}
use Rattle.std.specs.Prelude.{Ok, Err}
use Rattle.verdict.proofs.First.{never_both}
use Rattle.timeline.specs.Windows.{Follow}
use Rattle.timeline.proofs.Laws.{follow_same, window_at_same}
use Rattle.major_frame.specs.declared.MajorFrame.{MajorFrame}
use Rattle.major_frame.specs.Frame.{partition_at, offset_at, budget_at, frame_verdict, current_window}
use Rattle.major_frame.proofs.FrameLaws as port-laws
use Rattle.plan.specs.Plan.{offset_of, budget_of, owner_of}
use Rattle.rows.specs.Rows.{rows_of}
use Rattle.plan.specs.Faults.{verdict_of}
use Rattle.lookup.specs.Lookup.{lookup_of}
use Rattle.timeline.proofs.Lookup.{lookup_accepts}
use Rattle.accepted.proofs.FollowLaws.{follow}
use Rattle.accepted.proofs.AcceptedLaws.{accepted_all, all_accepted}
use Rattle.lookup.proofs.LookupLaws as plan-laws
use Rattle.cases.specs.Agreement.{windows_of, as_plan, OwnersInRange, Agreement}

-- the same numbers, window by window
record Same (f : MajorFrame) (i : ℕ) : Type 0 where
  owner : owner_of (as_plan f) i ≡ partition_at f i
  offset : offset_of (as_plan f) i ≡ offset_at f i
  budget : budget_of (as_plan f) i ≡ budget_at f i

same : (f : MajorFrame) (i : ℕ) → i < 4 → Same f i
unfolding windows_of
same f zero h = record { owner = refl; offset = refl; budget = refl }
same f (suc zero) h = record { owner = refl; offset = refl; budget = refl }
same f (suc (suc zero)) h = record { owner = refl; offset = refl; budget = refl }
same f (suc (suc (suc zero))) h = record { owner = refl; offset = refl; budget = refl }
same f (suc (suc (suc (suc i)))) h = absurd (omega arith)

module _ (f : MajorFrame) (owners : OwnersInRange f) where
  to_port : verdict_of (as_plan f) ≡ accepted → frame_verdict f ≡ accepted
  unfolding windows_of
  to_port e =
      port-laws.inv_accepted f
      (port-laws.unfollow f
      (follow_same (λ i h. (same f i h).offset) (λ i h. (same f i h).budget)
      (follow (as_plan f) (accepted_all (as_plan f) e))))

  to_plan : frame_verdict f ≡ accepted → verdict_of (as_plan f) ≡ accepted
  unfolding windows_of rows_of
  to_plan e =
      let w : Follow 4 (offset_of (as_plan f)) (budget_of (as_plan f)) f.frame_len = follow_same (λ i h. sym (same f i h).offset) (λ i h. sym (same f i h).budget) (port-laws.follow f (port-laws.accepted_inv f e)) in
      all_accepted (as_plan f)
      (record {
        counts = record { windows_whole = refl; rows_whole = refl; one_window_at_least = omega arith; windows_at_most = omega arith; rows_at_most = omega arith };
        first_starts_at_zero = w.first_starts_at_zero;
        starts_where_one_before_ends = w.starts_where_one_before_ends;
        budgets_are_positive = w.budgets_are_positive;
        last_end_is_frame_length = w.last_end_is_frame_length;
        owners_in_range = λ i h. omega (arith, (same f i h).owner, owners i h);
        partitions_in_range = λ i h. absurd (omega arith);
        accesses_in_range = λ i h. absurd (omega arith);
        sizes_are_powers_of_two = λ i h. absurd (omega arith);
        sizes_are_32_at_least = λ i h. absurd (omega arith);
        bases_are_multiples_of_sizes = λ i h. absurd (omega arith);
        eight_rows_at_most = λ q. omega arith;
        no_two_rows_clash = λ i j hi hj apart clash. omega arith;
      })

  same_window : (t : ℕ) (v w : Verdict) → verdict_of (as_plan f) ≡ v → frame_verdict f ≡ w
      → (lookup_of (as_plan f) t).window.0 ≡ (current_window f t).window
  unfolding windows_of
  same_window t (Ok _) (Ok _) ev ew =
      elim (dec_lt t f.frame_len) [
        | yes below ↦
            ap (λ r. r.window.0) (plan-laws.lookup_found (as_plan f) t ev below)
            ∙ window_at_same 4 (offset_of (as_plan f)) (budget_of (as_plan f)) (offset_at f) (budget_at f) t (λ i h. (same f i h).offset) (λ i h. (same f i h).budget)
            ∙ sym (ap (λ r. r.window) (port-laws.lookup_found f t ew below))
        | no past ↦
            ap (λ r. r.window.0) (plan-laws.lookup_past (as_plan f) t ev (omega arith))
            ∙ sym (ap (λ r. r.window) (port-laws.lookup_past f t ew (omega arith)))
      ]
  same_window t (Err r) (Err s) ev ew =
      ap (λ r. r.window.0) (plan-laws.lookup_refused (as_plan f) t r ev)
      ∙ sym (ap (λ r. r.window) (port-laws.lookup_refused f t s ew))
  same_window t (Ok _) (Err s) ev ew = absurd (never_both (sym (to_port ev) ∙ ew))
  same_window t (Err r) (Ok _) ev ew = absurd (never_both (sym (to_plan ew) ∙ ev))

  same_verdict : (t : ℕ) → ((lookup_of (as_plan f) t).verdict ≡ accepted) ↔ ((current_window f t).verdict ≡ accepted)
  same_verdict t =
      rw (plan-laws.lookup_verdict_lem (as_plan f) t, port-laws.lookup_verdict_lem f t) (
        λ e. let (v, below) = (lookup_accepts _ _ t).0 e in (lookup_accepts _ _ t).1 (to_port v, below),
        λ e. let (v, below) = (lookup_accepts _ _ t).0 e in (lookup_accepts _ _ t).1 (to_plan v, below),
      )

pub agreement : Agreement
agreement f owners =
    record {
      verdict = (to_port f owners, to_plan f owners);
      lookup_verdict_lem = same_verdict f owners;
      window = λ t. same_window f owners t (verdict_of (as_plan f)) (frame_verdict f) refl refl;
    }
