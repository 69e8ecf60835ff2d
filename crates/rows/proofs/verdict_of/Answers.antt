-- Past the test of the count the rows decide, and of whole rows there are a quarter as many as numbers.
use Rattle.std.proofs.Common.{◌≡◌, false, length, sym, ◌∙◌, arith}
use Rattle.rows.specs.Tests.{wrong_row_count}
use Rattle.rows.proofs.TestLaws.{row_count_right, counted}
use Rattle.rows.proofs.verdict_of.Goals as goal

pub overflow_cast-rows : goal.overflow_cast-rows
overflow_cast-rows c =
    let told : c.wrong_row_count.result ≡ false = search in
    let right : wrong_row_count (length c.args.rows.now) ≡ false = sym c.wrong_row_count.ensures ∙ told in
    omega (arith, (row_count_right _).0 right)

pub returns : goal.returns
returns c =
    let told : c.wrong_row_count.result ≡ false = search in
    let right : wrong_row_count (length c.args.rows.now) ≡ false = sym c.wrong_row_count.ensures ∙ told in
    c.rows_fault.ensures ∙ sym (counted _ right)
