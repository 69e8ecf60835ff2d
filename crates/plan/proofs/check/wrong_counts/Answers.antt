-- At each `return` past the first the tests that led there decide `wrong_counts`: the windows are whole, and their number is in range.
use Rattle.std.proofs.Common.{◌≡◌, ◌/◌, ◌%◌, ◌≤◌, le-ltb, lt-ltb, eq-eqb, ne_eqb, arith}
use Rattle.plan.specs.Plan.{max_windows}
use Rattle.plan.specs.Faults.{wrong_counts}
use Rattle.plan.proofs.check.wrong_counts.Goals as goal

pub returns-then-window_numbers-eq0 : goal.returns-then-window_numbers-eq0
unfolding wrong_counts
returns-then-window_numbers-eq0 c =
    let whole : c.args.window_numbers % 3 ≡ 0 = omega arith in
    simp (eq-eqb _ _ whole, eq-eqb _ _ c.if-window_numbers-eq0.true)

pub returns-then-window_numbers-gt-MAX_WINDOWS : goal.returns-then-window_numbers-gt-MAX_WINDOWS
unfolding wrong_counts
returns-then-window_numbers-gt-MAX_WINDOWS c =
    let whole : c.args.window_numbers % 3 ≡ 0 = omega arith in
    simp (eq-eqb _ _ whole, ne_eqb _ _ c.if-window_numbers-eq0.false, lt-ltb _ _ c.if-window_numbers-gt-MAX_WINDOWS.true)

pub returns : goal.returns
unfolding wrong_counts
returns c =
    let whole : c.args.window_numbers % 3 ≡ 0 = omega arith in
    let few : c.args.window_numbers / 3 ≤ max_windows = omega arith in
    simp (eq-eqb _ _ whole, ne_eqb _ _ c.if-window_numbers-eq0.false, le-ltb _ _ few) c.wrong_row_count.ensures
