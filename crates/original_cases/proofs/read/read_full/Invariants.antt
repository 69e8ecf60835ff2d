-- No more came in than there is room for.
use Rattle.std.proofs.Common.{length, ◌-◌, ◌≤◌}
use Rattle.original_cases.proofs.read.read_full.Given as goal

abbrev pub invariant-loop-read : goal.invariant-loop-read
invariant-loop-read g l = l.read ≤ length l.bytes

abbrev pub decreases-loop-read : goal.decreases-loop-read
decreases-loop-read g l = length l.initial.bytes - l.read
