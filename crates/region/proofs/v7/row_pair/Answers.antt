-- The sums are the fields at their places, those that are 0 written out.
use Rattle.std.proofs.Common.{◌≡◌, ◌+◌, ◌*◌, ◌^◌, arith}
use Rattle.words.specs.Manual.{rbar_word, rasr_word}
use Rattle.words.specs.Words.{size_field, row_rbar, row_rasr, row_pair}
use Rattle.region.proofs.v7.row_pair.Goals as goal

pub returns : goal.returns
unfolding row_pair
returns c =
    let second : c.xn_of-xn.result * 2 ^ 28 + c.ap_of-ap.result * 2 ^ 24 + 2 ^ 19 + size_field c.args.r.size * 2 + 1 ≡ rasr_word (row_rasr c.args.r) =
    omega (arith, c.xn_of-xn.ensures, c.ap_of-ap.ensures) in
    λ k. record { first = rbar_word (row_rbar c.args.slot.number c.args.r); second = second k }
