-- What the course ends in is what it ends in from here on; each turn leaves one fewer.
use Rattle.std.proofs.Common.{◌≡◌}
use Rattle.machine.specs.Run.{progress, go_on, left}
use Rattle.run.proofs.go_on.Given as goal

abbrev pub invariant-loop-next : goal.invariant-loop-next
invariant-loop-next l =
    go_on l.plan l.ticks l.statuses (left l.ticks l.statuses l.fn.course) (progress l.fn.course 0 l.fn.log)
    ≡ go_on l.plan l.ticks l.statuses (left l.ticks l.statuses l.now) (progress l.now l.calls l.log)

abbrev pub decreases-loop-next : goal.decreases-loop-next
decreases-loop-next l = left l.ticks l.statuses l.now
