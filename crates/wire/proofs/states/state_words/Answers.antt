-- The phase's words and the mark are those that its callees answer.
use Rattle.wire.proofs.states.state_words.Goals as goal

pub returns : goal.returns
returns c = rw (c.words-w.ensures, c.from-mark.ensures)
