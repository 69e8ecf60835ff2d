-- What `lent` promises of the rows is the only premise that the demands have beside the verdict.
use Rattle.std.proofs.Common.{subst}
use Rattle.records.specs.Records.{AllU32}
use Rattle.demands.proofs.Machine.{demand_3}
use Rattle.demands.proofs.Refusals.{demand_1}
use Rattle.demands.proofs.Unit as unit
use Rattle.promise.proofs.of_any_plan.Goals as goal

pub returns : goal.returns
returns c =
    let u32 : AllU32 c.args.plan.now.rows = subst AllU32 c.rows.ensures c.lent.ensures.1 in
    record { demand_1 = demand_1 _; demand_3 = demand_3 _ u32; shielded = unit.shielded _ u32 }
