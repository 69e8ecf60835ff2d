-- Windows of an accepted plan follow one another.
use Rattle.std.proofs.Common.{◌<◌, arith, rules, sym, ◌∙◌}
use Rattle.plan.specs.Plan.{frame_length}
use Rattle.accepted.specs.Accepted.{AcceptedIf}
use Rattle.accepted.proofs.AcceptedLaws.{accepted_all}
use Rattle.accepted.proofs.FollowLaws.{follow}
use Rattle.lookup.proofs.find.Goals as goal

pub overflow_cast-windows : goal.overflow_cast-windows
overflow_cast-windows c =
    let a : AcceptedIf c.args.plan.now = accepted_all _ (sym c.check.ensures ∙ c.in_ok-check.was) in
    search rules

pub window_at-requires : goal.window_at-requires
window_at-requires c =
    let a : AcceptedIf c.args.plan.now = accepted_all _ (sym c.check.ensures ∙ c.in_ok-check.was) in
    let inside : c.args.t < frame_length c.args.plan.now = omega (arith, c.length.ensures) in
    rw c.windows-windows.ensures (record { frame_length = _; follow = follow _ a; before_end = inside })
