-- Without a call, or without room for it, the log stays; else it grows by the call's two words.
use Rattle.std.proofs.Common.{◌&&◌, ◌+◌, ◌*◌, ◌/◌, length, sym, ap, ◌∙◌}
use Rattle.std.proofs.Math.ListN.{set}
use lib.Dec.{ltb}
use Rattle.protocol.specs.declared.CallWords.{CallWords}
use Rattle.run_log.proofs.LogLaws.{no_room, stays, grows}
use Rattle.run_log.proofs.put_call.Goals as goal

pub returns-then-is_none : goal.returns-then-is_none
returns-then-is_none c =
    let a = c.args in
    let same = stays a.log.now a.calls a.call (ap (λ b. b && ltb a.calls (length a.log.now / 2)) c.if-is_none.ensures) in
    (sym same.0, sym same.1)

pub returns-then-log-calls : goal.returns-then-log-calls
returns-then-log-calls c =
    let a = c.args in
    let same = stays a.log.now a.calls a.call (no_room a.log.now a.calls a.call c.if-log-calls.true) in
    (sym same.0, sym same.1)

pub returns : goal.returns
returns c =
    let a = c.args in
    let more = grows a.log.now a.calls a.call c.if-is_none.ensures c.if-log-calls.false in (
      sym more.0,
      ap (λ (w : CallWords). set (set a.log.now (a.calls * 2) w.number) (a.calls * 2 + 1) w.partition) c.call_words-words.ensures ∙ sym more.1,
    )
