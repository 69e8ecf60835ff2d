-- The machine does not look at the rows: what it does is told by the plan's verdict, its frame length and its windows.
-- Assumes nothing.
use mathlib.Core.List.{List}
use mathlib.Core.Path.{◌≡◌, sym, ap, ◌∙◌}
use Prim.Native.Nat.{◌/◌}
use lib.ListN.{length}
use Rattle.refusal.specs.declared.Refusal.TheVariants.{NoCallOpen}
use Rattle.refusal.specs.First.{refuse_if, or_else}
use Rattle.plan.specs.Plan.{Plan}
use Rattle.plan.specs.Faults.{verdict_of}
use Rattle.accepted.specs.Accepted as plan
use Rattle.accepted.specs.Equal.{EqualBut}
use Rattle.accepted.proofs.AcceptedLaws.{all_accepted}
use Rattle.protocol.specs.Phase.{runs}
use Rattle.state.specs.declared.State.{State}
use Rattle.state.specs.State.{zeros}
use Rattle.state.specs.Start.{cold_move, if_accepted, cold_of}
use Rattle.machine.specs.Step.{timetable, tick_move, status_move}
use Rattle.machine.specs.Guard.{fits, state_verdict, guard_of}
use Rattle.machine.specs.Machine.{tick_of, status_verdict, status_of}
use Rattle.history.specs.Reached.{Event, tick, status}
use Rattle.history.specs.History.{Machine, answer_of, machine_of, history}

module _ {q : _} (p p' : Plan) (a : plan.AcceptedIf p) (a' : plan.AcceptedIf p') (same : EqualBut q p p') where
  same_verdict : verdict_of p ≡ verdict_of p'
  same_verdict = all_accepted p a ∙ sym (all_accepted p' a')

  same_guard : (s : State) → guard_of p s ≡ guard_of p' s
  unfolding guard_of
  same_guard s = λ k. or_else (same_verdict k) (state_verdict (fits (length (same.windows k) / 3) (same.windows k) s) s.phase)

  same_answer : (s : State) (e : Event) → answer_of p s e ≡ answer_of p' s e
  unfolding tick_of status_verdict status_of
  same_answer s (tick t) =
      λ k. if_accepted (same_guard s k) s (tick_move (timetable (same.frame k).length (length (same.windows k) / 3) (same.windows k)) s t)
  same_answer s (status word) =
      λ k. if_accepted (or_else (same_guard s k) (refuse_if (runs s.phase) NoCallOpen)) s (status_move (same.windows k) s word)

  same_start : cold_of p ≡ cold_of p'
  unfolding cold_of
  same_start = λ k. if_accepted (same_verdict k) zeros (cold_move (same.windows k))

  same_machine : machine_of p ≡ machine_of p'
  same_machine = λ k. record { start = same_start k; answer = λ s e. same_answer s e k }

  pub same_history : (events : List Event) → history (machine_of p) events ≡ history (machine_of p') events
  same_history events = ap (λ (m : Machine). history m events) same_machine
