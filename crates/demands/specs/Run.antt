-- A run is the machine (document 01, "The machine": "A run takes a plan, ticks, statuses and a log, all lent. It cold-starts, takes the next status if, and
-- only if, the last answer left a call open, else the next tick; it ends when stopped or the list it needs is used up"). What it answers is told by the
-- history of the events that it took; so every sentence of demand 3 holds of it (`Sentences`, specs/Machine.antt, at those events).
use Rattle.std.specs.Prelude.{List, [], ◌∷◌, ◌++◌, ◌⊎◌, ◌≡◌, ℕ, zero, suc, ◌+◌, ◌*◌, ◌≤◌, ◌<◌, length, take, drop}
use Rattle.verdict.specs.Outcome.{outcome}
use Rattle.records.specs.Records.{AllU32}
use Rattle.plan.specs.Plan.{Plan}
use Rattle.plan.specs.Faults.{verdict_of}
use Rattle.protocol.specs.Numbers.{phase_words}
use Rattle.run_log.specs.Log.{call_log}
use Rattle.state.specs.State.{zeros}
use Rattle.machine.specs.declared.RunAnswer.{RunAnswer}
use Rattle.machine.specs.Run.{run_of, log_of}
use Rattle.history.specs.Reached.{Event, tick, status, ticks_of, statuses_of}
use Rattle.history.specs.History.{Machine, machine_of, History, next, history}
use Rattle.history.specs.Calls.{call_at, calls_in}
use Rattle.demands.specs.Machine.{CheckAccepts, Runs, HasStopped, Open, StopsExactly, StaysStopped, RunsOrWaits, RightTick, ZeroGoesOn, WhileRunning}
use Rattle.demands.specs.Calls.{CallsTold}

-- "the next status if, and only if, the last answer left a call open, else the next tick"; nothing once it is stopped
abbrev pub Next : History → Event → Type 0
Next h (tick t) = (HasStopped h → ⊥) × (Open h → ⊥)
Next h (status word) = (HasStopped h → ⊥) × Open h

abbrev pub ByTheRule : Machine → History → List Event → Type 0
ByTheRule m h [] = Unit {0}
ByTheRule m h (e ∷ events) = Next h e × ByTheRule m (next m h e) events

-- "it ends when stopped or the list it needs is used up"
abbrev pub AtTheEnd : (ticks statuses : List ℕ) → History → RunAnswer → Type 0
AtTheEnd ticks statuses h r = HasStopped h ⊎ ((Open h × (r.statuses ≡ length statuses)) ⊎ ((Open h → ⊥) × (r.ticks ≡ length ticks)))

-- 1 if it was a tick that stopped the machine, by the number of the cause: that tick is used and not taken
abbrev pub stopping_tick : (cause : ℕ) → ℕ
stopping_tick zero = 0
stopping_tick (suc zero) = 1
stopping_tick (suc (suc zero)) = 1
stopping_tick (suc (suc (suc cause))) = 0

-- what an accepted run answers, and what its log is then
pub record IsTheMachine (p : Plan) (ticks statuses log : List ℕ) (r : RunAnswer) (after : List ℕ) : Type 0 where
  pub verdict : outcome r.verdict ≡ (0, 0)
  -- the events that it took
  pub events : List Event
  pub by_the_rule : ByTheRule (machine_of p) (history (machine_of p) []) events
  pub ticks_in_order : ticks_of events ≡ take r.ticks ticks
  pub statuses_in_order : statuses_of events ≡ take r.statuses statuses
  pub used : (r.ticks ≤ length ticks) × (r.statuses ≤ length statuses)
  pub to_the_end : AtTheEnd ticks statuses (history (machine_of p) events) r
  -- "the end state"
  pub state : r.state ≡ (history (machine_of p) events).state
  -- N
  pub taken : (history (machine_of p) events).taken + stopping_tick (phase_words r.state.phase).cause ≡ r.ticks
  pub calls : r.calls ≡ length (calls_in (history (machine_of p) events).entries)
  -- "Each call is two log words ... Words past the last record stay"
  pub in_the_log : after ≡ call_log (call_at p) r.calls ++ drop (r.calls * 2) log

abbrev pub RunsAreTheMachine : Type 0
RunsAreTheMachine =
    (p : Plan) → CheckAccepts p → (ticks statuses log : List ℕ) → 4 + 6 * length ticks ≤ length log
    → IsTheMachine p ticks statuses log (run_of p ticks statuses log) (log_of p ticks statuses log)

-- the sentences of demand 3 on events, of a machine after some of them
pub record SentencesAt (p : Plan) (m : Machine) (events : List Event) : Type 0 where
  pub stops : StopsExactly p m events
  pub stays_stopped : HasStopped (history m events) → StaysStopped m events
  pub runs_or_waits : (HasStopped (history m events) → ⊥) → RunsOrWaits (history m events)
  pub right_tick : Runs (history m events) → RightTick p m (history m events)
  pub zero_goes_on : (HasStopped (history m events) → ⊥) → ZeroGoesOn p m (history m events)
  pub while_running : Runs (history m events) → WhileRunning p (history m events)

-- they hold of a run, at the events that it took; and its calls are the plan's
pub record RunMeetsDemand3 (p : Plan) (ticks statuses log : List ℕ) : Type 0 where
  pub run : IsTheMachine p ticks statuses log (run_of p ticks statuses log) (log_of p ticks statuses log)
  pub holds : SentencesAt p (machine_of p) run.events
  pub calls : CallsTold p (machine_of p) run.events

abbrev pub RunsMeetDemand3 : Type 0
RunsMeetDemand3 =
    (p : Plan) → AllU32 p.rows → CheckAccepts p → (ticks statuses log : List ℕ) → 4 + 6 * length ticks ≤ length log
    → RunMeetsDemand3 p ticks statuses log

-- "the plan's own numbers, then 16": a refused run answers a state of zeros in Running and three zeros, and leaves the whole log
pub record RunRefused (number place : ℕ) (log : List ℕ) (r : RunAnswer) (after : List ℕ) : Type 0 where
  pub verdict : outcome r.verdict ≡ (number, place)
  pub state : r.state ≡ zeros
  pub counts : (r.ticks ≡ 0) × (r.statuses ≡ 0) × (r.calls ≡ 0)
  pub untouched : after ≡ log

pub record RunRefusals (p : Plan) (ticks statuses log : List ℕ) : Type 0 where
  pub first_the_plan : (CheckAccepts p → ⊥)
      → let (number, place) = outcome (verdict_of p) in RunRefused number place log (run_of p ticks statuses log) (log_of p ticks statuses log)
  pub then_16 : CheckAccepts p → length log < 4 + 6 * length ticks → RunRefused 16 0 log (run_of p ticks statuses log) (log_of p ticks statuses log)

abbrev pub RefusedRuns : Type 0
RefusedRuns = (p : Plan) (ticks statuses log : List ℕ) → RunRefusals p ticks statuses log
