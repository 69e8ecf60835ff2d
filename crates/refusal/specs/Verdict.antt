-- What a check answers: nothing where it accepts, else the refusal.
use Rattle.std.specs.Prelude.{Result, Ok, ⊤}
use Rattle.refusal.specs.declared.Refusal.{Refusal}

abbrev pub Verdict : Type 0
Verdict = Result ⊤ Refusal

abbrev pub accepted : Verdict
accepted = Ok tt
