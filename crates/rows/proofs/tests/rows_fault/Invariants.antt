-- What the fold says from row 0 on is what it says from row i on, and what is carried is what the first i rows say.
use Rattle.std.proofs.Common.{◌-◌, ◌≡◌}
use Rattle.verdict.specs.First.{first_fault}
use Rattle.rows.specs.Tests.{row_test}
use Rattle.rows.specs.Carried.{Carried}
use Rattle.rows.proofs.tests.rows_fault.Given as goal

abbrev pub invariant-loop-i : goal.invariant-loop-i
invariant-loop-i l =
    (first_fault (row_test l.rows) 0 l.count ≡ first_fault (row_test l.rows) l.i (l.count - l.i)) × Carried l.rows l.i l.counts l.lowest l.highest
