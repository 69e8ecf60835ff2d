-- One slot more is filled each turn, and after the last all are.
use Rattle.std.proofs.Common.{◌≡◌, arith, ap, ◌∙◌}
use Rattle.std.proofs.Math.ListN.{set}
use Rattle.words.specs.Slots.{slot_count}
use Rattle.words.proofs.WordsLaws.{filled, fill, all_filled}
use Rattle.region.specs.Parts.{slot_at}
use Rattle.region.proofs.slots_of.Goals as goal

pub loop-k-preserved : goal.loop-k-preserved
loop-k-preserved c = (λ j. set (c.loop-k.invariant j) c.loop-k.k (c.slot_at.ensures j)) ∙ fill (slot_at c.args.own) c.loop-k.k (omega arith)

pub returns : goal.returns
returns c =
    let all : c.loop-k.k ≡ slot_count = omega arith in
    c.loop-k.invariant ∙ ap (filled (slot_at c.args.own)) all ∙ all_filled (slot_at c.args.own)
