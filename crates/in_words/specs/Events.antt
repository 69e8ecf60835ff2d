-- The machine's events on a state in words, any eight of them: what is no state is refused by 17 like any other state that cannot be, after the
-- plan's own numbers; and a refusal leaves the words as they came (document 01, "Refusal numbers and their place").
use Rattle.std.specs.Prelude.{List, ℕ, Err, Option, Some, None}
use Rattle.refusal.specs.declared.Refusal.TheVariants.{StrangeState}
use Rattle.refusal.specs.Verdict.{Verdict}
use Rattle.refusal.specs.First.{or_else}
use Rattle.verdict.specs.First.{unless_refused}
use Rattle.plan.specs.Plan.{Plan}
use Rattle.plan.specs.Faults.{verdict_of}
use Rattle.state.specs.declared.State.{State}
use Rattle.state.specs.declared.Answer.{Answer}
use Rattle.state.specs.State.{zeros}
use Rattle.state.specs.Answer.{refused_answer}
use Rattle.machine.specs.Machine.{tick_of, status_of}
use Rattle.wire.specs.States.{state_words, read_state}

-- the plan's refusal, else 17
abbrev pub strange : Plan → Answer
strange p = refused_answer zeros (or_else (verdict_of p) (Err StrangeState))

abbrev pub on_state : Option State → (State → Answer) → (none : Answer) → Answer
on_state None event none = none
on_state (Some s) event none = event s

abbrev pub tick_in_words : Plan → (words : List ℕ) → (t : ℕ) → Answer
tick_in_words p words t = on_state (read_state words) (λ s. tick_of p s t) (strange p)

abbrev pub status_in_words : Plan → (words : List ℕ) → (status : ℕ) → Answer
status_in_words p words status = on_state (read_state words) (λ s. status_of p s status) (strange p)

-- the words of the state that is answered; on a refusal, those that came
abbrev pub left_words : Verdict → State → (words : List ℕ) → List ℕ
left_words verdict s words = unless_refused verdict (state_words s) words
