-- The frame's verdict is what the tests from window i on say, and `end` is where window i has to start.
use Rattle.std.proofs.Common.{◌≡◌}
use Rattle.major_frame.specs.Frame.{start_of, frame_verdict}
use Rattle.major_frame.proofs.FrameLaws.{verdict_from}
use Rattle.major_frame.proofs.MajorFrame.check.Given as goal

abbrev pub invariant-loop-i : goal.invariant-loop-i
invariant-loop-i l = record {
  reached : l.end ≡ start_of l.self l.i;
  same_verdict : frame_verdict l.self ≡ verdict_from l.self l.i;
}
