-- A row that is refused ends the fold with what it was refused for; one that passes carries what it adds.
use Rattle.std.proofs.Common.{◌≤◌, rules, sym, ap, ◌∙◌}
use Rattle.verdict.proofs.First.{starts, goes_on, stops}
use Rattle.records.specs.Records.{max_partition}
use Rattle.row.specs.Tests.{row_fault}
use Rattle.row.proofs.TestLaws.{row_accepted}
use Rattle.rows.proofs.CarriedLaws.{none_carried, one_carried, row_refused, row_passes}
use Rattle.rows.proofs.tests.rows_fault.Goals as goal

pub loop-i-init : goal.loop-i-init
loop-i-init c = (starts _ _, none_carried _)

-- what the fold says of a row that is refused by itself, or for those before it, and of one that passes
pub returns-in_err-row_fault : goal.returns-in_err-row_fault
returns-in_err-row_fault c =
    let r = c.in_err-row_fault.field-0.0 in
    let alone = sym (ap (row_fault c.loop-i.i) c.row_in-r.ensures) ∙ sym c.row_fault.ensures ∙ c.in_err-row_fault.was in
    let folded = c.loop-i.invariant.0 ∙ stops _ _ _ r c.loop-i-test.true (row_refused _ _ r alone) in
    search (rules, folded)

pub returns-in_err-among_earlier : goal.returns-in_err-among_earlier
returns-in_err-among_earlier c =
    let r = c.in_err-among_earlier.field-0.0 in
    let alone = sym (ap (row_fault c.loop-i.i) c.row_in-r.ensures) ∙ sym c.row_fault.ensures ∙ c.in_ok-row_fault.was in
    let folded = c.loop-i.invariant.0 ∙ stops _ _ _ r c.loop-i-test.true (row_passes _ _ alone ∙ sym c.among_earlier.ensures ∙ c.in_err-among_earlier.was) in
    search (rules, folded)

pub loop-i-preserved : goal.loop-i-preserved
loop-i-preserved c =
    let alone = sym (ap (row_fault c.loop-i.i) c.row_in-r.ensures) ∙ sym c.row_fault.ensures ∙ c.in_ok-row_fault.was in
    let tested = row_passes _ _ alone ∙ sym c.among_earlier.ensures ∙ c.in_ok-among_earlier.was in
    let known : c.row_in-r.result.partition.0 ≤ max_partition = ((row_accepted _ _).0 (sym c.row_fault.ensures ∙ c.in_ok-row_fault.was)).0 in (
      c.loop-i.invariant.0 ∙ goes_on _ _ _ c.loop-i-test.true tested,
      one_carried _ _ _ c.row_in-r.ensures known _ _ _ c.loop-i.invariant.1 _ _ c.min-lowest.ensures c.max-highest.ensures,
    )
