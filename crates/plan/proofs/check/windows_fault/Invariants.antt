-- What the fold says from window 0 on is what it says from window i on, and `start` is where window i has to start.
use Rattle.std.proofs.Common.{◌-◌, ◌≡◌}
use Rattle.verdict.specs.First.{first_fault}
use Rattle.records.specs.Records.{start_of}
use Rattle.plan.specs.Parts.{window_test}
use Rattle.plan.proofs.check.windows_fault.Given as goal

abbrev pub invariant-loop-i : goal.invariant-loop-i
invariant-loop-i l =
    (l.start ≡ start_of l.windows l.i) × (first_fault (window_test l.windows) 0 l.count ≡ first_fault (window_test l.windows) l.i (l.count - l.i))
