-- The window is the target's, and each test is its callee's.
use Rattle.machine.specs.Guard.{placed_at, fits_at}
use Rattle.guard.proofs.fits.fits_at.Goals as goal

pub returns : goal.returns
unfolding fits_at placed_at
returns c = rw (c.fits_stage.ensures, c.can_be.ensures, c.at_start-start.ensures, c.between_windows-between.ensures, c.in_window-inside.ensures, c.nth_window-window.ensures)
