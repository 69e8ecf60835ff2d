-- What the private functions of the check compute: the tests of one window. Nothing here has to be believed: proofs/CheckLaws.antt shows that with the
-- rows' tests they are `verdict_of`. A `..Fault` is of values, a `..Test` of the window at a place of a list.
use Rattle.std.specs.Prelude.{List, ℕ}
use Rattle.refusal.specs.declared.Refusal.TheVariants.{ZeroBudget, WrongStart, UnknownOwner}
use Rattle.refusal.specs.Verdict.{Verdict}
use Rattle.refusal.specs.First.{refuse_if, or_else}
use Rattle.records.specs.declared.Window.{Window}
use Rattle.records.specs.Records.{nth_window, start_of}
use Rattle.plan.specs.Faults.{zero_budget, wrong_start, unknown_owner}

unfoldable pub window_fault : ℕ → ℕ → Window → Verdict
window_fault i start w =
    or_else (refuse_if (zero_budget w) (ZeroBudget i)) (or_else (refuse_if (wrong_start start w) (WrongStart i)) (refuse_if (unknown_owner w) (UnknownOwner i)))

unfoldable pub window_test : List ℕ → ℕ → Verdict
window_test windows i = window_fault i (start_of windows i) (nth_window windows i)
