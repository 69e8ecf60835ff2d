-- An accepted plan has a count of rows in range, and eight of a partition at most.
use Rattle.std.proofs.Common.{rules, sym, ◌∙◌}
use Rattle.plan.specs.Plan.{CountsInRange}
use Rattle.accepted.specs.Accepted.{AcceptedIf}
use Rattle.accepted.proofs.AcceptedLaws.{accepted_all}
use Rattle.own.proofs.own_rows.Goals as goal

pub overflow_cast-rows : goal.overflow_cast-rows
overflow_cast-rows c =
    let a : CountsInRange c.args.plan.now = (accepted_all _ (sym c.check.ensures ∙ c.in_ok-check.was)).counts in
    search rules

pub packed_rows-requires : goal.packed_rows-requires
packed_rows-requires c =
    let a : AcceptedIf c.args.plan.now = accepted_all _ (sym c.check.ensures ∙ c.in_ok-check.was) in
    rw c.rows-rows.ensures (a.eight_rows_at_most _)
