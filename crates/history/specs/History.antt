-- What a host and a machine have said to each other since a cold start, by the machine's answers: the calls, the status words that
-- answered them, and N, "the ticks taken" ("A stop changes the phase only; its tick isn't taken"; "Refused events change nothing and
-- don't count in N").
use Rattle.std.specs.Prelude.{Option, Some, None, Bool, cond, List, [], ◌∷◌, ℕ, ◌+◌, Ok, Err}
use Rattle.refusal.specs.Verdict.{Verdict}
use Rattle.plan.specs.Plan.{Plan}
use Rattle.protocol.specs.declared.Call.{Call}
use Rattle.protocol.specs.declared.Call.TheVariants.{SaveFor, SwapFor, ResumeFor}
use Rattle.protocol.specs.declared.CallWords.{CallWords}
use Rattle.protocol.specs.Numbers.{no_call, save_for, swap_for, resume_for}
use Rattle.protocol.specs.Phase.{is_stopped}
use Rattle.state.specs.declared.State.{State}
use Rattle.state.specs.declared.Answer.{Answer}
use Rattle.state.specs.Start.{cold_of}
use Rattle.machine.specs.Machine.{tick_of, status_of}
use Rattle.history.specs.Reached.{Event, tick, status}

-- any machine: what a cold start answers, and what an event
pub record Machine : Type 0 where
  pub start : Answer
  pub answer : State → Event → Answer

-- a plan's, by the entry points
abbrev pub answer_of : Plan → State → Event → Answer
answer_of p s (tick t) = tick_of p s t
answer_of p s (status word) = status_of p s word

abbrev pub machine_of : Plan → Machine
machine_of p = record { start = cold_of p; answer = answer_of p }

pub data Entry : Type 0 where
  called : CallWords → Entry
  answered : ℕ → Entry

pub record History : Type 0 where
  pub state : State
  -- N
  pub taken : ℕ
  -- the latest first
  pub entries : List Entry

-- a tick is taken if it is accepted and does not stop the machine
abbrev pub counted : Event → Verdict → (stops : Bool) → ℕ → ℕ
counted (tick t) (Ok _) stops taken = cond stops taken (taken + 1)
counted (tick t) (Err r) stops taken = taken
counted (status word) verdict stops taken = taken

-- a status that is accepted answers the call that is open
abbrev pub heard : Event → Verdict → List Entry → List Entry
heard (tick t) verdict entries = entries
heard (status word) (Ok _) entries = answered word ∷ entries
heard (status word) (Err r) entries = entries

abbrev pub said : Option Call → List Entry → List Entry
said None entries = entries
said (Some (SaveFor q)) entries = called (save_for q.0) ∷ entries
said (Some (SwapFor q)) entries = called (swap_for q.0) ∷ entries
said (Some (ResumeFor q)) entries = called (resume_for q.0) ∷ entries

abbrev pub begin : Answer → History
begin a = record { state = a.state; taken = 0; entries = said a.call [] }

abbrev pub go_on : History → Event → Answer → History
go_on h e a =
    record {
      state = a.state;
      taken = counted e a.verdict (is_stopped a.state.phase) h.taken;
      entries = said a.call (heard e a.verdict h.entries);
    }

abbrev pub next : Machine → History → Event → History
next m h e = go_on h e (m.answer h.state e)

abbrev pub since : Machine → History → List Event → History
since m h [] = h
since m h (e ∷ events) = since m (next m h e) events

-- after a cold start and these events, in the order in which they come
abbrev pub history : Machine → List Event → History
history m events = since m (begin m.start) events

-- the call that waits for its status: the last entry, if it is a call
abbrev pub open_call : List Entry → CallWords
open_call [] = no_call
open_call (called call ∷ entries) = call
open_call (answered word ∷ entries) = no_call
