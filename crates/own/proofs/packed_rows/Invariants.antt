-- What was handed out so far.
use Rattle.std.proofs.Common.{◌≡◌}
use Rattle.rows.specs.Rows.{rows_of}
use Rattle.own.specs.Own.{packed}
use Rattle.own.proofs.packed_rows.Given as goal

abbrev pub invariant-loop-j : goal.invariant-loop-j
invariant-loop-j l =
    l.own ≡ packed (rows_of l.rows l.partition.0 l.j)
