-- The scan stops at a window that has started and not ended by t, and only one window does.
use Rattle.std.proofs.Common.{◌≡◌, ◌-◌, arith, sym, ap, ◌∙◌}
use Rattle.timeline.proofs.Laws.{window_at_lem}
use Rattle.records.specs.Records.{end_of, nth_window}
use Rattle.lookup.proofs.window_at.Goals as goal

pub returns-then-tick-end : goal.returns-then-tick-end
returns-then-tick-end c =
    let ends : c.window_end-end.result ≡ end_of (nth_window c.args.windows.now c.loop-i.i) = c.window_end-end.ensures ∙ ap end_of c.nth_window.ensures in
    sym (window_at_lem c.requires.follow c.loop-i.i c.args.t (omega arith) (record { started = c.loop-i.invariant; not_ended = omega (arith, ends) }))

pub returns : goal.returns
returns c =
    let at_last : c.loop-i.i ≡ c.args.count - 1 = omega arith in
    sym at_last
    ∙ sym (window_at_lem c.requires.follow c.loop-i.i c.args.t (omega arith)
    (record { started = c.loop-i.invariant; not_ended = omega (arith, c.requires.before_end, c.requires.follow.last_end_is_frame_length c.loop-i.i (omega arith)) }))
