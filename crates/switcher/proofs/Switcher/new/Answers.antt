-- A frame that is accepted stands in the state.
use Rattle.std.proofs.Common.{sym, ◌∙◌}
use Rattle.switcher.proofs.SwitchLaws.{new_if_ok}
use Rattle.switcher.proofs.Switcher.new.Goals as goal

pub returns-then-is_ok : goal.returns-then-is_ok
returns-then-is_ok c = sym (new_if_ok c.args.frame c.check-verdict.result c.check-verdict.ensures (sym c.is_ok.ensures.value ∙ c.if-is_ok.true))
