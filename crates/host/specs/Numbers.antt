-- What the C interface writes (document 01's table of refusals: number, place, host code): each answer begins with these three, three zeros where
-- accepted (`verdict_words` of crate `wire`). After them, on a refusal, "lookups answer 0, region words all zero"; the core's answers already are.
use Rattle.std.specs.Prelude.{List, [], ◌∷◌, ◌++◌, ℕ, get_or}
use Rattle.timeline.specs.declared.Located.{Located}
use Rattle.records.specs.declared.WindowNo.{WindowNo}
use Rattle.machine.specs.declared.RunAnswer.{RunAnswer}
use Rattle.words.specs.declared.Pair.{Pair}
use Rattle.words.specs.declared.Words.{Words}
use Rattle.wire.specs.Answers.{verdict_words}

-- then the window
abbrev pub located_words : Located WindowNo → List ℕ
located_words l = verdict_words l.verdict ++ (l.window.0 ∷ [])

-- then slot by slot its two words
abbrev pub slot_words : List Pair → ℕ → List ℕ
slot_words slots k = let pair = get_or slots k (record { first = 0; second = 0 }) in pair.first ∷ pair.second ∷ []

abbrev pub slots_words : List Pair → List ℕ
slots_words slots = let slot = slot_words slots in slot 0 ++ slot 1 ++ slot 2 ++ slot 3 ++ slot 4 ++ slot 5 ++ slot 6 ++ slot 7

abbrev pub region_words : Words → List ℕ
region_words w = verdict_words w.verdict ++ slots_words w.slots

-- the ticks used, the statuses used, the calls written
abbrev pub counts_of : RunAnswer → List ℕ
counts_of r = r.ticks ∷ r.statuses ∷ r.calls ∷ []
