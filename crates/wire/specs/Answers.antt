-- What is answered, in words of 32 bits, for hosts that know neither enums nor signed numbers (document 01, "Refusal numbers and their place"): the refusal's number,
-- its place and its host code, three zeros where it is accepted; then what was asked for.
use Rattle.std.specs.Prelude.{List, [], ◌∷◌, ◌++◌, ℕ, suc, ◌-◌, ◌^◌, ℤ, pos, negsuc, Ok, Err}
use Rattle.refusal.specs.Verdict.{Verdict}
use Rattle.refusal.specs.Table.{number_of, place_of, host_code_of}
use Rattle.protocol.specs.Numbers.{call_words}
use Rattle.state.specs.declared.Answer.{Answer}

-- a signed number in 32 bits, as two's complement has it
abbrev pub twos : ℤ → ℕ
twos (pos n) = n
twos (negsuc n) = 2 ^ 32 - suc n

-- number, place, host code
abbrev pub verdict_words : Verdict → List ℕ
verdict_words (Ok _) = 0 ∷ 0 ∷ 0 ∷ []
verdict_words (Err r) = number_of r ∷ place_of r ∷ twos (host_code_of r) ∷ []

-- then the call, two zeros where none is asked
abbrev pub answer_words : Answer → List ℕ
answer_words a = verdict_words a.verdict ++ ((call_words a.call).number ∷ (call_words a.call).partition ∷ [])
