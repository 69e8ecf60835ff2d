-- The slots so far are filled.
use Rattle.std.proofs.Common.{◌≡◌}
use Rattle.region.specs.Parts.{slot_at}
use Rattle.words.proofs.WordsLaws.{filled}
use Rattle.region.proofs.slots_of.Given as goal

abbrev pub invariant-loop-k : goal.invariant-loop-k
invariant-loop-k l =
    l.slots ≡ filled (slot_at l.own) l.k
