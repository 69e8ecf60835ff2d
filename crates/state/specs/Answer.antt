-- The answers that the machine makes (document 01, "The machine"): the state after the event and the call, or a refusal.
use Rattle.std.specs.Prelude.{Option, None, List, ℕ}
use Rattle.refusal.specs.Verdict.{Verdict, accepted}
use Rattle.records.specs.declared.PartitionNo.{PartitionNo}
use Rattle.records.specs.declared.WindowNo.{WindowNo}
use Rattle.records.specs.Records.{nth_window}
use Rattle.protocol.specs.declared.Call.{Call}
use Rattle.protocol.specs.declared.Stage.{Stage}
use Rattle.protocol.specs.declared.Cause.{Cause}
use Rattle.state.specs.declared.State.{State}
use Rattle.state.specs.declared.Answer.{Answer}
use Rattle.state.specs.State.{stopped}

-- whom a call is for
abbrev pub owner : List ℕ → WindowNo → PartitionNo
owner windows w = (nth_window windows w.0).owner

abbrev pub moved : State → Option Call → Answer
moved s call = record { state = s; call = call; verdict = accepted }

-- nothing is asked
abbrev pub quiet : State → Answer
quiet s = moved s None

abbrev pub stop : State → Stage → Cause → Answer
stop s stage cause = quiet (stopped s stage cause)

-- "a refusal hands back the state it got; ... no call asked"
abbrev pub refused_answer : State → Verdict → Answer
refused_answer s verdict = record { state = s; call = None; verdict = verdict }
