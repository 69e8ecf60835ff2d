-- Past the tests of its size a row has one bit set there, so that no case of `row_fault` before the one at hand holds.
use Rattle.std.proofs.Common.{◌≡◌, le-ltb, lt-ltb, eq-eqb, ne_eqb, arith}
use lib.Count.{ones}
use Rattle.refusal.specs.First.{refuse_if, or_else}
use Rattle.row.specs.Tests.{row_fault}
use Rattle.row.proofs.row_fault.Goals as goal

pub returns-then-r-ne0 : goal.returns-then-r-ne0
unfolding row_fault refuse_if or_else
returns-then-r-ne0 c =
    let one_bit : ones c.args.r.size ≡ 1 = omega arith in
    simp (le-ltb _ _ c.if-r-gt-MAX.false, le-ltb _ _ c.if-r-lt-MIN_SIZE.false, eq-eqb _ _ one_bit, ne_eqb _ _ c.if-r-ne0.true)

pub returns-then-r-gt-MAX_ACCESS : goal.returns-then-r-gt-MAX_ACCESS
unfolding row_fault refuse_if or_else
returns-then-r-gt-MAX_ACCESS c =
    let one_bit : ones c.args.r.size ≡ 1 = omega arith in
    simp (le-ltb _ _ c.if-r-gt-MAX.false, le-ltb _ _ c.if-r-lt-MIN_SIZE.false, eq-eqb _ _ one_bit, eq-eqb _ _ c.if-r-ne0.false, lt-ltb _ _ c.if-r-gt-MAX_ACCESS.true)

pub returns : goal.returns
unfolding row_fault refuse_if or_else
returns c =
    let one_bit : ones c.args.r.size ≡ 1 = omega arith in
    simp (le-ltb _ _ c.if-r-gt-MAX.false, le-ltb _ _ c.if-r-lt-MIN_SIZE.false, eq-eqb _ _ one_bit, eq-eqb _ _ c.if-r-ne0.false, le-ltb _ _ c.if-r-gt-MAX_ACCESS.false)
