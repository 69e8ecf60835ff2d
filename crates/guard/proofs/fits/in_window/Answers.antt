-- The window's end is what `window_end` answers.
use Rattle.guard.proofs.fits.in_window.Goals as goal

pub returns : goal.returns
returns c = rw c.window_end-end.ensures
