-- What the fold says from row 0 on is what it says from row j on.
use Rattle.std.proofs.Common.{◌-◌, ◌≡◌}
use Rattle.verdict.specs.First.{first_fault}
use Rattle.rows.specs.Tests.{clash_test}
use Rattle.rows.proofs.tests.clashes_before.Given as goal

abbrev pub invariant-loop-j : goal.invariant-loop-j
invariant-loop-j l = first_fault (clash_test l.rows l.i) 0 l.i ≡ first_fault (clash_test l.rows l.i) l.j (l.i - l.j)
