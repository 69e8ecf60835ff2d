-- Fewer than four words are too few for no tick, and else a sixth of the rest is what the ticks are held against.
use Rattle.std.proofs.Common.{arith, sym}
use Rattle.run_log.proofs.LogLaws.{below_four, by_sixths}
use Rattle.run_log.proofs.too_short.Goals as goal

pub returns-then-words-lt-FIRST : goal.returns-then-words-lt-FIRST
returns-then-words-lt-FIRST c = sym (below_four c.args.words c.args.ticks (omega arith))

pub returns : goal.returns
returns c = by_sixths c.args.words c.args.ticks c.if-words-lt-FIRST.false
