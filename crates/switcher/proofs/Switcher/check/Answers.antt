-- What `inv` asks is tested, part by part.
use Rattle.std.proofs.Common.{sym, arith}
use Rattle.switcher.proofs.SwitchLaws.{tests_pass}
use Rattle.switcher.proofs.Switcher.check.Goals as goal

pub returns : goal.returns
returns c = sym (tests_pass c.args.self (sym c.in_ok-check.ensures) (omega arith) (sym c.if-not-mark_fits.ensures))
