-- The plan's refusal, then 16, else all turns from the cold start on.
use Rattle.std.proofs.Common.{◌≡◌, sym, ap, ◌∙◌}
use Rattle.refusal.specs.Verdict.{accepted}
use Rattle.plan.specs.Faults.{verdict_of}
use Rattle.state.specs.declared.Answer.{Answer}
use Rattle.state.proofs.StartLaws.{cold_accepted}
use Rattle.machine.specs.declared.Course.{Course}
use Rattle.machine.specs.Run.{Progress, took, progress, go_on, left, ended, refused_run}
use Rattle.machine.proofs.RunLaws.{cold_verdict, plan_first, then_16, let_in, runs_refused, runs_whole}
use Rattle.run.proofs.run.Goals as goal

pub returns-in_default : goal.returns-in_default
returns-in_default c =
    let plan = c.args.plan.now in
    let refusal = sym (cold_verdict plan) ∙ sym (ap (λ (a : Answer). a.verdict) c.cold_start-start.ensures) ∙ c.in_default.is in
    let r = runs_refused plan _ _ _ c.in_default.field-0 (plan_first plan _ _ c.in_default.field-0 refusal) in
    (c.refused_run.ensures ∙ ap refused_run c.in_default.is ∙ sym r.0, sym r.1)

pub returns-then-too_short : goal.returns-then-too_short
returns-then-too_short c =
    let plan = c.args.plan.now in
    let accepted : verdict_of plan ≡ accepted = sym (cold_verdict plan) ∙ sym (ap (λ (a : Answer). a.verdict) c.cold_start-start.ensures) ∙ c.in-Ok.is in
    let r = runs_refused plan _ _ _ _ (then_16 plan _ _ accepted (sym c.too_short.ensures ∙ c.if-too_short.true)) in
    (c.refused_run-then-too_short.ensures ∙ sym r.0, sym r.1)

pub returns : goal.returns
returns c =
    let p = c.args.plan.now in
    let ticks = c.args.ticks.now in
    let statuses = c.args.statuses.now in
    let log = c.args.log.now in
    let accepted : verdict_of p ≡ accepted = sym (cold_verdict p) ∙ sym (ap (λ (a : Answer). a.verdict) c.cold_start-start.ensures) ∙ c.in-Ok.is in
    let cold = c.took.ensures ∙ ap (λ (a : Answer). took a 0 0) (c.cold_start-start.ensures ∙ cold_accepted p accepted) in
    let same = ap (λ (x : Course). go_on p ticks statuses (left ticks statuses x) (progress x 0 log)) cold in
    let long = sym c.too_short.ensures ∙ c.if-too_short.false in
    let r = runs_whole p ticks statuses log (let_in p ticks log accepted long) in
    (c.go_on.ensures.0 ∙ ap ended same ∙ sym r.0, c.go_on.ensures.1 ∙ ap (λ (g : Progress). g.log) same ∙ sym r.1)
