-- Nothing is lost on the way through words (document 01: "a refusal hands back the state it got"): events on the words of a state are the machine's
-- events on that state, and what is left where the words were lent are the words of the state that it answers, also on a refusal. So what holds of
-- the machine holds of the machine in words. On a refusal the words are as they came, whatever they were. Words that are no state's get the plan's
-- number, then 17.
use Rattle.std.specs.Prelude.{List, ◌≡◌, ℕ, Err, None}
use Rattle.refusal.specs.declared.Refusal.{Refusal}
use Rattle.verdict.specs.Outcome.{outcome}
use Rattle.plan.specs.Plan.{Plan}
use Rattle.plan.specs.Faults.{verdict_of}
use Rattle.state.specs.declared.State.{State}
use Rattle.state.specs.declared.Answer.{Answer}
use Rattle.machine.specs.Machine.{tick_of, status_of}
use Rattle.wire.specs.States.{state_words, read_state}
use Rattle.in_words.specs.Events.{tick_in_words, status_in_words, left_words}
use Rattle.demands.specs.Machine.{CheckAccepts}

-- the answer to words that are no state's
pub record Strange (p : Plan) (a : Answer) : Type 0 where
  pub first_the_plan : (CheckAccepts p → ⊥) → outcome a.verdict ≡ outcome (verdict_of p)
  pub then_17 : CheckAccepts p → outcome a.verdict ≡ (17, 0)

pub record NothingLost : Type 0 where
  pub tick : (p : Plan) (s : State) (t : ℕ) → tick_in_words p (state_words s) t ≡ tick_of p s t
  pub status : (p : Plan) (s : State) (status : ℕ) → status_in_words p (state_words s) status ≡ status_of p s status
  pub left_by_tick : (p : Plan) (s : State) (t : ℕ) → left_words (tick_of p s t).verdict (tick_of p s t).state (state_words s) ≡ state_words (tick_of p s t).state
  pub left_by_status : (p : Plan) (s : State) (status : ℕ)
      → left_words (status_of p s status).verdict (status_of p s status).state (state_words s) ≡ state_words (status_of p s status).state
  pub no_state_ticks : (p : Plan) (words : List ℕ) (t : ℕ) → read_state words ≡ None → Strange p (tick_in_words p words t)
  pub no_state_asks : (p : Plan) (words : List ℕ) (status : ℕ) → read_state words ≡ None → Strange p (status_in_words p words status)
  pub left_alone : (r : Refusal) (s : State) (words : List ℕ) → left_words (Err r) s words ≡ words
