-- The loop ends early where window i's own test refuses it, and that is the frame's verdict too.
use Rattle.std.proofs.Common.{◌≡◌, sym, ◌∙◌, arith}
use Rattle.std.proofs.lemmas.Result.{err_from_is_err_and}
use Rattle.std.specs.Prelude.{Err}
use Rattle.major_frame.specs.Frame.{window_test}
use Rattle.major_frame.proofs.FrameLaws.{check_stops}
use Rattle.major_frame.proofs.MajorFrame.check.Goals as goal

pub returns-in_err-window_fault : goal.returns-in_err-window_fault
unfolding window_test
returns-in_err-window_fault c =
    let f = c.args.self in
    let i = c.loop-i.i in
    let r = c.in_err-window_fault.field-0.0 in
    let p = err_from_is_err_and c.from_residual.result c.from_residual.ensures.1 in
    let tested : window_test f i ≡ Err r = rw (← c.loop-i.invariant.reached) (sym c.in_err-window_fault.ensures) in
    rw (p.1, p.2) (sym (c.loop-i.invariant.same_verdict ∙ check_stops f i r (omega arith) tested))
