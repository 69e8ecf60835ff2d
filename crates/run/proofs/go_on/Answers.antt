-- What a turn takes is the course that the run goes on from, with the call of the one before in the log.
use Rattle.std.proofs.Common.{◌≡◌, ℕ, sym, ap, ◌∙◌}
use Rattle.std.specs.Prelude.{Some}
use Rattle.machine.specs.Run.{turn, progress, go_on, left}
use Rattle.machine.proofs.RunLaws.{one_turn_fewer, one_turn_more}
use Rattle.run.proofs.go_on.Goals as goal

pub loop-next-preserved : goal.loop-next-preserved
loop-next-preserved c =
    let p = c.args.plan.now in
    let ticks = c.args.ticks.now in
    let statuses = c.args.statuses.now in
    let next = c.in-Some.next in
    let at = c.loop-next in
    let taken : turn p ticks statuses at.now ≡ Some next = sym c.turn.ensures ∙ c.in-Some.is in
    let g = progress at.now at.calls at.log in
    at.invariant
    ∙ ap (λ (n : ℕ). go_on p ticks statuses n g) (one_turn_fewer p ticks statuses at.now next taken)
    ∙ one_turn_more p ticks statuses g (left ticks statuses next) next taken
    ∙ (λ k. go_on p ticks statuses (left ticks statuses next) (progress next (sym c.put_call-calls.ensures.0 k) (sym c.put_call-calls.ensures.1 k)))
