-- A call in words: 1 save, 2 swap, 3 resume; then the partition (document 01, "The machine"). Nothing where no call was made.
use Rattle.std.specs.Prelude.{Option, Some, None, List, [], ◌∷◌, ◌++◌, ℕ}
use Rattle.protocol.specs.declared.Call.{Call}
use Rattle.protocol.specs.Numbers.{call_words}

-- a call as the two words of a log
abbrev pub log_words : Option Call → List ℕ
log_words None = []
log_words (Some call) = (call_words (Some call)).number ∷ (call_words (Some call)).partition ∷ []

abbrev pub calls_words : List (Option Call) → List ℕ
calls_words [] = []
calls_words (call ∷ calls) = log_words call ++ calls_words calls
