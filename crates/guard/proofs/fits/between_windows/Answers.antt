-- The next window is what `next_of` answers.
use Rattle.guard.proofs.fits.between_windows.Goals as goal

pub returns : goal.returns
returns c = rw c.next_of-next.ensures
