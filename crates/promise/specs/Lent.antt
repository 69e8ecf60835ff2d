-- "Any plan, tick, status word or state may arrive": what is lent and handed in is made of 32-bit words, and of whatever can be lent and
-- handed in the demands hold with no premise but the check's verdict. These are the promises of src/lib.rt.
use Rattle.std.specs.Prelude.{List, ◌↔◌, ◌≡◌, ℕ, ◌^◌}
use Rattle.plan.specs.Plan.{Plan}
use Rattle.words.specs.Manual.{Mpu}
use Rattle.words.specs.Unit.{OthersOff}
use Rattle.state.specs.declared.State.{State}
use Rattle.history.specs.Reached.{Event, ReachedWithin}
use Rattle.history.specs.History.{machine_of, history}
use Rattle.demands.specs.Machine.{CheckAccepts, Runs, Sentences}
use Rattle.demands.specs.Refusals.{Answers, outcome_of}
use Rattle.demands.specs.Unit.{Shielded}

pub record HoldsOfPlan (p : Plan) : Type 0 where
  pub demand_1 : Answers p
  pub demand_3 : CheckAccepts p → Sentences p (machine_of p)
  pub shielded : CheckAccepts p → (mpu : Mpu) (count : ℕ) → OthersOff mpu count → (events : List Event)
      → Runs (history (machine_of p) events) → Shielded p mpu count (history (machine_of p) events)

-- 17 by words that can arrive: a state is let in exactly if ticks and statuses of 32 bits lead to it
abbrev pub HoldsOfState : Plan → State → Type 0
HoldsOfState p s = CheckAccepts p → (e : Event) → (outcome_of p s e ≡ (17, 0) → ⊥) ↔ ReachedWithin (2 ^ 32) p s
