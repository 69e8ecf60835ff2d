-- A row that is copied is one of the partition's, and so its size is even.
use Rattle.std.proofs.Common.{arith}
use Rattle.region.proofs.slot_at.Goals as goal

pub row_pair-requires : goal.row_pair-requires
row_pair-requires c = c.requires c.args.slot.number (omega arith)
