-- With row j they are still eight at most.
use Rattle.std.proofs.Common.{List, suc, ℕ, ◌+◌, ◌<◌, ◌≤◌, length, arith, ap, ◌∙◌}
use Rattle.records.specs.declared.Row.{Row}
use Rattle.records.specs.Records.{nth_row}
use Rattle.rows.specs.Rows.{max_rows_each, rows_of}
use Rattle.rows.specs.Tests.{one_if_own}
use Rattle.rows.proofs.RowLaws.{count_step, count_mono}
use Rattle.own.specs.declared.OwnRows.{OwnRows}
use Rattle.own.specs.Own.{with_own}
use Rattle.own.proofs.OwnLaws.{packed_count, own_step}
use Rattle.own.proofs.packed_rows.Goals as goal

room : (rows : List ℕ) (q j count : ℕ) → length (rows_of rows q count) ≤ max_rows_each → j < count
    → length (rows_of rows q j) + one_if_own (nth_row rows j) q ≤ max_rows_each
room rows q j count most below = omega (arith, count_step rows q j, count_mono rows q (suc j) count (omega arith))

pub with_own-own-requires : goal.with_own-own-requires
with_own-own-requires c =
    omega (
      arith,
      room c.args.rows.now c.args.partition.0 c.loop-j.j c.args.count c.requires c.loop-j-test.true,
      ap (λ (own : OwnRows). own.count) c.loop-j.invariant ∙ packed_count _,
      ap (λ (r : Row). one_if_own r c.args.partition.0) c.nth_row.ensures,
    )

pub loop-j-preserved : goal.loop-j-preserved
loop-j-preserved c =
    c.with_own-own.ensures
    ∙ (λ k. with_own (c.loop-j.invariant k) (c.nth_row.ensures k) c.args.partition.0)
    ∙ own_step c.args.rows.now c.args.partition.0 c.loop-j.j (room c.args.rows.now c.args.partition.0 c.loop-j.j c.args.count c.requires c.loop-j-test.true)
