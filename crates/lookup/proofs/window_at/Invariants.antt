-- Each window so far has started and ended before t.
use Rattle.std.proofs.Common.{◌≤◌}
use Rattle.records.specs.Records.{offset_in}
use Rattle.lookup.proofs.window_at.Given as goal

abbrev pub invariant-loop-i : goal.invariant-loop-i
invariant-loop-i l =
    offset_in l.windows l.i ≤ l.t
