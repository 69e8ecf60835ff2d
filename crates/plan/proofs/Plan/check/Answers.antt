-- Once the counts have passed they are in range, and so are the casts and the last window; what each call said is a part of the verdict. A contract
-- sees the plan's value; here it is what its fields say.
use Rattle.std.proofs.Common.{◌≡◌, ◌-◌, arith, rules, sym, ap, ◌∙◌}
use Rattle.records.specs.Records.{end_of}
use Rattle.plan.specs.Plan.{CountsInRange, plan_of, window_count, window_of}
use Rattle.plan.specs.Faults.{verdict_of}
use Rattle.plan.proofs.CheckLaws.{counts_refuse, in_range, windows_refuse, length_refuses}
use Rattle.plan.proofs.Plan.check.Goals as goal

pub returns-then-wrong_counts : goal.returns-then-wrong_counts
returns-then-wrong_counts c =
    let p = plan_of c.self.inside.frame c.self.inside.windows.now c.self.inside.rows.now in
    sym (counts_refuse p (sym c.wrong_counts.ensures ∙ c.if-wrong_counts.true)) ∙ ap verdict_of c.self.view_is

pub overflow_cast-count : goal.overflow_cast-count
overflow_cast-count c =
    let n : CountsInRange (plan_of c.self.inside.frame c.self.inside.windows.now c.self.inside.rows.now) = in_range _ (sym c.wrong_counts.ensures ∙ c.if-wrong_counts.false) in
    search rules

pub returns-in_err-windows_fault : goal.returns-in_err-windows_fault
returns-in_err-windows_fault c =
    let p = plan_of c.self.inside.frame c.self.inside.windows.now c.self.inside.rows.now in
    let refused = sym (ap verdict_of c.self.view_is) ∙ windows_refuse p (sym c.wrong_counts.ensures ∙ c.if-wrong_counts.false) c.in_err-windows_fault.field-0.0 (sym c.windows_fault.ensures ∙ c.in_err-windows_fault.was) in
    search (rules, refused)

pub overflow_sub-last : goal.overflow_sub-last
overflow_sub-last c =
    let n : CountsInRange (plan_of c.self.inside.frame c.self.inside.windows.now c.self.inside.rows.now) = in_range _ (sym c.wrong_counts.ensures ∙ c.if-wrong_counts.false) in
    search rules

pub window_in-requires : goal.window_in-requires
window_in-requires c =
    let n : CountsInRange (plan_of c.self.inside.frame c.self.inside.windows.now c.self.inside.rows.now) = in_range _ (sym c.wrong_counts.ensures ∙ c.if-wrong_counts.false) in
    omega arith

pub returns-then-end-self : goal.returns-then-end-self
returns-then-end-self c =
    let p = plan_of c.self.inside.frame c.self.inside.windows.now c.self.inside.rows.now in
    let ends : c.window_end-end.result ≡ end_of (window_of p (window_count p - 1)) = c.window_end-end.ensures ∙ ap end_of c.window_in.ensures in
    sym (length_refuses p (sym c.wrong_counts.ensures ∙ c.if-wrong_counts.false) (sym c.windows_fault.ensures ∙ c.in_ok-windows_fault.was) (λ e. c.if-end-self.true (ends ∙ e))) ∙ ap verdict_of c.self.view_is
