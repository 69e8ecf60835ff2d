-- Within the window it goes on; the window's last tick is left to the search, whose goal an edit of the test renames.
use Rattle.std.proofs.Common.{◌≡◌, false, sym, ap, ◌∙◌}
use borrow.Author.Tests.{eqb-false}
use Rattle.state.specs.State.{ticked}
use Rattle.state.specs.Answer.{quiet}
use Rattle.machine.proofs.StepLaws.{taken_within}
use Rattle.switch.proofs.step.tick_taken.Goals as goal

pub returns : goal.returns
returns c =
    let more : c.last_tick-last.result ≡ false = search in
    c.quiet.ensures ∙ ap quiet (c.ticked-taken.ensures ∙ ap (ticked c.args.state) c.next_of.ensures)
    ∙ sym (taken_within _ _ _ (eqb-false _ _ (sym c.last_tick-last.ensures ∙ more)))
