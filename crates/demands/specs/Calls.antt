-- Which calls the machine asks for: the plan alone tells them (`call_at`, crate `history`, specs/Calls.antt), and how far it is with them is told by N and
-- the number of its phase. Stops are included: a machine that has stopped has asked for what it had asked for.
use Rattle.std.specs.Prelude.{List, ◌∷◌, ◌≡◌, ◌+◌, ◌*◌, ◌≤◌, length}
use Rattle.plan.specs.Plan.{Plan, owner_of}
use Rattle.protocol.specs.Numbers.{swap_for, resume_for}
use Rattle.history.specs.Reached.{Event, ticks_of}
use Rattle.history.specs.History.{Machine, machine_of, history}
use Rattle.history.specs.Calls.{first_calls, calls_in, ended_after, CallsAreThePlans}
use Rattle.demands.specs.Machine.{CheckAccepts, Runs}

pub record CallsTold (p : Plan) (m : Machine) (events : List Event) : Type 0 where
  -- the calls so far are the first m of the plan's: how m, the phase and N belong together is `call_count`
  pub the_plans : CallsAreThePlans p (history m events)
  -- k ticks bring no more than 2 + 3k calls
  pub at_most : length (calls_in (history m events).entries) ≤ 2 + 3 * length (ticks_of events)
  -- while it runs, the latest two were for its window's owner
  pub while_running : Runs (history m events)
      → let h = history m events in
      let q = owner_of p h.state.current.0 in
      calls_in h.entries ≡ resume_for q ∷ swap_for q ∷ first_calls p (3 * ended_after p h.taken)

abbrev pub ThePlansCalls : Type 0
ThePlansCalls = (p : Plan) → CheckAccepts p → (events : List Event) → CallsTold p (machine_of p) events
