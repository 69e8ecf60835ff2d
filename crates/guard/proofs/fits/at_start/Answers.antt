-- The three tests are the definition's.
use Rattle.std.proofs.Common.{refl}
use Rattle.guard.proofs.fits.at_start.Goals as goal

pub returns : goal.returns
returns c = refl
