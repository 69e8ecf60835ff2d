-- The rows that were handed out are the partition's, and an accepted row has a size with a trailing zero.
use Rattle.std.proofs.Common.{◌≡◌, sym, ◌∙◌}
use Rattle.refusal.specs.Verdict.{accepted}
use Rattle.plan.specs.Plan.{own_rows}
use Rattle.plan.specs.Faults.{verdict_of}
use Rattle.accepted.proofs.AcceptedLaws.{accepted_all}
use Rattle.own.specs.Own.{packed}
use Rattle.own.proofs.OwnLaws.{owned_accepted, owned_only, same_own}
use Rattle.region.proofs.PartsLaws.{even_sizes}
use Rattle.region.proofs.slots_for.Goals as goal

pub slots_of-requires : goal.slots_of-requires
slots_of-requires c =
    let plan = c.args.plan.now in
    let q = c.args.partition.0 in
    let handed = sym c.own_rows.ensures ∙ c.in_ok-own.was in
    let sound : verdict_of plan ≡ accepted = owned_only plan q _ handed in
    let rows : c.in_ok-own.own ≡ packed (own_rows plan q) = same_own (sym handed ∙ owned_accepted plan q sound) in
    rw rows (even_sizes plan (accepted_all plan sound) q)
