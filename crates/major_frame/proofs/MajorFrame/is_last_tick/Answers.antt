-- The end of a window that is none is 0, which no tick's next is.
use Rattle.std.proofs.Common.{◌+◌, eqb, arith, sym, ap}
use Rattle.std.proofs.lemmas.Grind.{common_steps}
use borrow.Author.Tests.{ne_eqb}
use Rattle.major_frame.specs.Frame.{win_end}
use Rattle.major_frame.proofs.MajorFrame.is_last_tick.Goals as goal

pub returns-then-i-lt-WINDOWS : goal.returns-then-i-lt-WINDOWS
returns-then-i-lt-WINDOWS c = ap (eqb (c.args.t + 1)) c.window_end.ensures

pub returns-else-i-lt-WINDOWS : goal.returns-else-i-lt-WINDOWS
returns-else-i-lt-WINDOWS c = sym (ne_eqb (c.args.t + 1) (win_end c.args.self c.args.i) (λ e. grind (arith, common_steps)))
