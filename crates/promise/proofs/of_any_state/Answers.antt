-- The frame length is a u32, and `kept_word` promises that the word of a stop is one.
use Rattle.std.proofs.Common.{arith}
use Rattle.demands.proofs.Machine.{accepts}
use Rattle.demands.proofs.Refusals.{strange_exactly}
use Rattle.promise.proofs.of_any_state.Goals as goal

pub returns : goal.returns
returns c = λ ok e. (strange_exactly _ c.args.state (accepts _ ok) e).by_words (omega arith) c.kept_word.ensures.small
