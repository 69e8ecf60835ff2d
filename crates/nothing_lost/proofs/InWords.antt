-- A state that comes back is the state that went out, and a refusal answers the state that it got. What is no state has the plan's verdict, else 17.
-- Assumes nothing.
use mathlib.Core.Path.{◌≡◌, refl, sym, ap, ◌∙◌, subst}
use Rattle.refusal.specs.declared.Refusal.TheVariants.{StrangeState}
use Rattle.refusal.specs.Verdict.{Verdict}
use Rattle.std.specs.Prelude.{Ok, Err, Option, None}
use Rattle.verdict.specs.Outcome.{outcome}
use Rattle.refusal.specs.First.{or_else}
use Rattle.verdict.proofs.First.{answers, answers_else}
use Rattle.plan.specs.Plan.{Plan}
use Rattle.plan.specs.Faults.{verdict_of}
use Rattle.state.specs.declared.State.{State}
use Rattle.state.specs.declared.Answer.{Answer}
use Rattle.machine.specs.Machine.{tick_of, status_of}
use Rattle.history.specs.Reached.{Event, tick, status}
use Rattle.history.specs.History.{answer_of}
use Rattle.history.proofs.Answers.{refused_changes_nothing}
use Rattle.wire.specs.States.{state_words, read_state}
use Rattle.nothing_lost.proofs.Back.{states_in_words}
use Rattle.demands.proofs.Refusals.{told, check_accepts}
use Rattle.in_words.specs.Events.{strange, on_state, left_words}
use Rattle.nothing_lost.specs.InWords.{Strange, NothingLost}

left_by : (p : Plan) (s : State) (e : Event) (v : Verdict) → (answer_of p s e).verdict ≡ v
    → left_words (answer_of p s e).verdict (answer_of p s e).state (state_words s) ≡ state_words (answer_of p s e).state
left_by p s e (Ok _) is = answers _ _ is
left_by p s e (Err r) is =
    answers_else _ _ r is ∙ sym (ap (λ (a : Answer). state_words a.state) (refused_changes_nothing p s e r is))

plan_then_17 : (p : Plan) → Strange p (strange p)
unfolding or_else
plan_then_17 p =
    record {
      first_the_plan = λ refusal. let (r, is) = told (verdict_of p) refusal in ap (λ (v : Verdict). outcome (or_else v (Err StrangeState))) is ∙ sym (ap outcome is);
      then_17 = λ ok. ap (λ (v : Verdict). outcome (or_else v (Err StrangeState))) (check_accepts p ok);
    }

no_state : (p : Plan) (read : Option State) (event : State → Answer) → read ≡ None → Strange p (on_state read event (strange p))
no_state p read event none = subst (λ (r : Option State). Strange p (on_state r event (strange p))) (sym none) (plan_then_17 p)

pub nothing_lost : NothingLost
nothing_lost =
    record {
      tick = λ p s t. ap (λ (read : Option State). on_state read (λ x. tick_of p x t) (strange p)) (states_in_words.comes_back s);
      status = λ p s word. ap (λ (read : Option State). on_state read (λ x. status_of p x word) (strange p)) (states_in_words.comes_back s);
      left_by_tick = λ p s t. left_by p s (tick t) _ refl;
      left_by_status = λ p s word. left_by p s (status word) _ refl;
      no_state_ticks = λ p words t. no_state p (read_state words) (λ s. tick_of p s t);
      no_state_asks = λ p words word. no_state p (read_state words) (λ s. status_of p s word);
      left_alone = λ r s words. answers_else (state_words s) words r refl;
    }
