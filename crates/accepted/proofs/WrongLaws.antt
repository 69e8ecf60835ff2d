-- The table of tests says what the table of refusals means, number by number; so a refusal is the first in document 01's order.
-- Assumes nothing.
use mathlib.Core.Bool.{true, false, false≢true}
use mathlib.Core.Logic.Iff
use mathlib.Core.Logic.{◌↔◌}
use mathlib.Core.Path.{◌≡◌, sym, ◌∙◌}
use mathlib.Mathlib.Data.Bool.Basic.{eq-false_of_not-eq-true}
use lib.ListN.{get_or}
use Rattle.refusal.specs.declared.Refusal.{Refusal}
use Rattle.refusal.specs.declared.Refusal.TheVariants.{Counts, ZeroBudget, WrongStart, UnknownOwner, WrongLength, UnknownPartition, BadSize, BadBase, BadAccess, NinthRow, Clash, TickPastFrame, NoCallOpen, MachineStopped, NoWordsFor, LogTooShort, StrangeState}
use Rattle.std.specs.Prelude.{Err}
use Rattle.verdict.proofs.First.{refuses_if}
use Rattle.refusal.proofs.Tests.{equal, at_most, neither, found, same, above}
use Rattle.plan.specs.Plan.{Plan, frame_length, window_of, owner_of, offset_of, budget_of, row_of}
use Rattle.records.specs.Records.{max_partition, end_of, start_of}
use Rattle.row.specs.Tests.{max_access}
use Rattle.row.proofs.TestLaws.{multiple_of}
use Rattle.row.proofs.Powers.{power_of_two}
use Rattle.rows.specs.Rows.{max_rows_each}
use Rattle.plan.specs.Faults.{wrong, verdict_of}
use Rattle.accepted.specs.Wrong.{Wrong, FirstWrong}
use Rattle.plan.proofs.CheckLaws.{counts_accepted, refused_first, first_refused}
use Rattle.rows.proofs.ClashLaws.{clash_found}

never : (false ≡ true) ↔ ⊥
never = (λ e. false≢true e, λ n. absurd n)

module _ (p : Plan) where
  pub wrong_means : (r : Refusal) → (wrong p r ≡ true) ↔ Wrong p r
  unfolding wrong
  wrong_means Counts = found _ (Iff.trans (Iff.symm (refuses_if _ Counts)) (counts_accepted p))
  wrong_means (ZeroBudget i) = same (budget_of p i) 0
  wrong_means (WrongStart i) = found _ (equal (offset_of p i) (start_of p.windows i))
  wrong_means (UnknownOwner i) = above max_partition (owner_of p i)
  wrong_means (WrongLength i) = found _ (equal (end_of (window_of p i)) (frame_length p))
  wrong_means (UnknownPartition i) = above max_partition (row_of p i).partition.0
  wrong_means (BadSize i) = found _ (simp (neither, at_most, equal, power_of_two) Iff.rfl)
  wrong_means (BadBase i) = found _ (simp (equal, multiple_of) Iff.rfl)
  wrong_means (BadAccess i) = above max_access (row_of p i).access
  wrong_means (NinthRow i) = same _ max_rows_each
  wrong_means (Clash i) = clash_found p.rows i
  wrong_means TickPastFrame = never
  wrong_means NoCallOpen = never
  wrong_means MachineStopped = never
  wrong_means NoWordsFor = never
  wrong_means LogTooShort = never
  wrong_means StrangeState = never

  -- a plan is refused with r exactly if r is the first that is wrong
  pub refused_for : (r : Refusal) → (verdict_of p ≡ Err r) ↔ FirstWrong p r
  refused_for r = (
    λ e.
        let f = refused_first p r e in
        record {
          before = f.before;
          after = f.after;
          stands = f.stands;
          is_wrong = (wrong_means r).0 f.is_wrong;
          none_before = λ i h w. false≢true (sym (f.none_before i h) ∙ (wrong_means (get_or f.before i r)).1 w);
        },
    λ f.
        first_refused p r
        (record {
          before = f.before;
          after = f.after;
          stands = f.stands;
          is_wrong = (wrong_means r).1 f.is_wrong;
          none_before = λ i h. eq-false_of_not-eq-true (λ t. f.none_before i h ((wrong_means (get_or f.before i r)).0 t));
        }),
  )
