-- What the entry points answer: the plan's numbers, 17, 14, 13, or the step (document 01, "The machine" and "Refusal numbers and their
-- place": "a refusal hands back the state it got; ... no call asked").
use Rattle.std.specs.Prelude.{ℕ}
use Rattle.refusal.specs.declared.Refusal.TheVariants.{NoCallOpen}
use Rattle.refusal.specs.Verdict.{Verdict}
use Rattle.refusal.specs.First.{refuse_if, or_else}
use Rattle.plan.specs.Plan.{Plan}
use Rattle.protocol.specs.Phase.{runs}
use Rattle.state.specs.declared.State.{State}
use Rattle.state.specs.declared.Answer.{Answer}
use Rattle.state.specs.Start.{if_accepted}
use Rattle.machine.specs.Step.{timetable_of, tick_move, status_move}
use Rattle.machine.specs.Guard.{guard_of}

unfoldable pub tick_of : Plan → State → ℕ → Answer
tick_of p s t = if_accepted (guard_of p s) s (tick_move (timetable_of p) s t)

unfoldable pub status_verdict : Plan → State → Verdict
status_verdict p s = or_else (guard_of p s) (refuse_if (runs s.phase) NoCallOpen)

unfoldable pub status_of : Plan → State → ℕ → Answer
status_of p s word = if_accepted (status_verdict p s) s (status_move p.windows s word)
