-- What `shares_address` said decides, or what the three tests say.
use Rattle.std.proofs.Common.{sym, ◌∙◌}
use Rattle.row.specs.Tests.{clashes}
use Rattle.row.proofs.clashes.Goals as goal

pub returns-then-not-shares_address : goal.returns-then-not-shares_address
unfolding clashes
returns-then-not-shares_address c = simp (sym c.shares_address.ensures ∙ c.if-not-shares_address.true)

pub returns : goal.returns
unfolding clashes
returns c = simp (sym c.shares_address.ensures ∙ c.if-not-shares_address.false)
