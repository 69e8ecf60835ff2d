-- What is at i, or 0.
use Rattle.std.proofs.Common.{arith}
use Rattle.major_frame.proofs.MajorFrame.partition_at.Goals as goal

pub returns : goal.returns
returns c = rw (c.unwrap_or.ensures, c.copied.ensures) (c.get.ensures.lookup.4 (omega arith) 0)
