-- What a cold start answers (document 01, "The machine" and "Refusal numbers and their place": "a refusal hands back the state it got; where
-- none was given, a state of zeros in Running with `swapped` false; ... no call asked").
use Rattle.std.specs.Prelude.{Some, List, ℕ}
use Rattle.refusal.specs.Verdict.{Verdict}
use Rattle.verdict.specs.First.{unless_refused}
use Rattle.plan.specs.Plan.{Plan}
use Rattle.plan.specs.Faults.{verdict_of}
use Rattle.protocol.specs.declared.Call.TheVariants.{SwapFor}
use Rattle.state.specs.declared.State.{State}
use Rattle.state.specs.declared.Answer.{Answer}
use Rattle.state.specs.State.{zeros, cold}
use Rattle.state.specs.Answer.{owner, moved, refused_answer}

-- the answer `to`, if nothing is wrong
unfoldable pub if_accepted : Verdict → State → Answer → Answer
if_accepted verdict s to = unless_refused verdict to (refused_answer s verdict)

-- "Cold start: ... asks swap(owner of 0)"
unfoldable pub cold_move : List ℕ → Answer
cold_move windows = moved cold (Some (SwapFor (owner windows cold.target)))

unfoldable pub cold_of : Plan → Answer
cold_of p = if_accepted (verdict_of p) zeros (cold_move p.windows)
