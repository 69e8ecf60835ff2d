-- The list is the one that was lent, and what its type says is that each number fits 32 bits.
use Rattle.std.proofs.Common.{arith}
use Rattle.records.proofs.lent.Goals as goal

pub returns : goal.returns
returns c = (c.handed_on.ensures, λ i. omega (arith, c.type_inv.list i))
