-- The log of a run (document 01, "The machine"): "Each call is two log words: 1 save, 2 swap, 3 resume; then the partition. The log needs 4 + 6 × (number
-- of ticks) words, else 16. Words past the last record stay."
use Rattle.std.specs.Prelude.{Bool, cond, Option, is_some, ◌&&◌, List, [], ◌∷◌, ◌++◌, ℕ, zero, suc, ◌+◌, ◌*◌, ◌/◌, ltb, length, set}
use Rattle.protocol.specs.declared.Call.{Call}
use Rattle.protocol.specs.declared.CallWords.{CallWords}
use Rattle.protocol.specs.Numbers.{call_words}

-- a log of so many words, for so many ticks
unfoldable pub too_short : (words ticks : ℕ) → Bool
too_short words ticks = ltb words (4 + 6 * ticks)

-- a call is asked for
abbrev pub asks : Option Call → Bool
asks call = is_some call

-- there is a call to log, and room for it after so many
abbrev pub goes_in : List ℕ → ℕ → Option Call → Bool
goes_in log calls call = asks call && ltb calls (length log / 2)

-- its two words, in their place
abbrev pub with_call : List ℕ → ℕ → Option Call → List ℕ
with_call log calls call = set (set log (calls * 2) (call_words call).number) (calls * 2 + 1) (call_words call).partition

unfoldable pub logged : List ℕ → ℕ → Option Call → List ℕ
logged log calls call = cond (goes_in log calls call) (with_call log calls call) log

unfoldable pub calls_logged : List ℕ → ℕ → Option Call → ℕ
calls_logged log calls call = cond (goes_in log calls call) (calls + 1) calls

-- the words of the first m of some calls, in order
unfoldable pub call_log : (ℕ → CallWords) → ℕ → List ℕ
call_log call zero = []
call_log call (suc m) = call_log call m ++ ((call m).number ∷ (call m).partition ∷ [])
