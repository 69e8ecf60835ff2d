-- Demand 1 of the mission: "Any plan, tick, status word or state may arrive. Each is accepted, or refused with the number and the place of document
-- 01; a refusal changes nothing that was lent or handed in." Document 01's order: the plan's numbers "first, then 17, then 14, then 13; 12, 15
-- and 16 come after the plan's". An outcome is the number and the place of a verdict, 0 and 0 where it accepts.
use Rattle.std.specs.Prelude.{Bool, true, false, List, ◌↔◌, ◌≡◌, ℕ, ◌≤◌, ◌<◌, ◌^◌, replicate}
use Rattle.refusal.specs.declared.Refusal.{Refusal}
use Rattle.refusal.specs.Verdict.{Verdict}
use Rattle.refusal.specs.Table.{number_of, place_of}
use Rattle.verdict.specs.Outcome.{outcome}
use Rattle.timeline.specs.Windows.{OnlyWindow}
use Rattle.records.specs.Records.{max_partition}
use Rattle.plan.specs.Plan.{Plan, frame_length, window_count, offset_of, budget_of}
use Rattle.plan.specs.Faults.{verdict_of}
use Rattle.accepted.specs.Accepted.{AcceptedIf}
use Rattle.accepted.specs.Wrong.{FirstWrong}
use Rattle.timeline.specs.declared.Located.{Located}
use Rattle.records.specs.declared.WindowNo.{WindowNo}
use Rattle.lookup.specs.Lookup.{lookup_of}
use Rattle.words.specs.Slots.{slot_count}
use Rattle.words.specs.Words.{no_pair, words_of}
use Rattle.protocol.specs.Phase.{kept_word}
use Rattle.protocol.specs.Numbers.{phase_words}
use Rattle.state.specs.declared.State.{State}
use Rattle.state.specs.State.{zeros, cold}
use Rattle.state.specs.Start.{cold_of}
use Rattle.history.specs.Reached.{Event, tick, status, leads, Reached, ReachedWithin}
use Rattle.history.specs.History.{machine_of, History, answer_of, next, history}
use Rattle.demands.specs.Machine.{CheckAccepts, RefusedWith}

-- a verdict on a plan: accepted exactly if document 01's sentences hold, else refused with the first that is wrong in document 01's order
pub record RightVerdict (p : Plan) (v : Verdict) : Type 0 where
  pub accepted : (outcome v ≡ (0, 0)) ↔ AcceptedIf p
  pub refused : (r : Refusal) → (outcome v ≡ (number_of r, place_of r)) ↔ FirstWrong p r

-- the answer of a lookup: the plan's number, then 12, with window 0; else the only window that holds the tick
pub record RightWindow (p : Plan) (t : ℕ) (l : Located WindowNo) : Type 0 where
  pub first_the_plan : (CheckAccepts p → ⊥) → (outcome l.verdict ≡ outcome (verdict_of p)) × (l.window.0 ≡ 0)
  pub then_12 : CheckAccepts p → frame_length p ≤ t → (outcome l.verdict ≡ (12, 0)) × (l.window.0 ≡ 0)
  pub else_found : CheckAccepts p → t < frame_length p
      → (outcome l.verdict ≡ (0, 0)) × OnlyWindow (window_count p) (offset_of p) (budget_of p) t l.window.0

-- region words: the plan's number, then 15; all words zero with both
pub record WordsRefusals (p : Plan) (q : ℕ) : Type 0 where
  pub first_the_plan : (CheckAccepts p → ⊥)
      → (outcome (words_of p q).verdict ≡ outcome (verdict_of p)) × ((words_of p q).slots ≡ replicate slot_count no_pair)
  pub then_15 : CheckAccepts p → max_partition < q → (outcome (words_of p q).verdict ≡ (15, 0)) × ((words_of p q).slots ≡ replicate slot_count no_pair)
  pub else_none : CheckAccepts p → q ≤ max_partition → outcome (words_of p q).verdict ≡ (0, 0)

abbrev pub is_status : Event → Bool
is_status (tick t) = false
is_status (status word) = true

-- an event: the plan's number, then 17, then 14, then 13
abbrev pub outcome_of : Plan → State → Event → ℕ × ℕ
outcome_of p s e = outcome (answer_of p s e).verdict

pub record EventRefusals (p : Plan) (s : State) (e : Event) : Type 0 where
  pub first_the_plan : (CheckAccepts p → ⊥) → outcome_of p s e ≡ outcome (verdict_of p)
  pub then_17 : CheckAccepts p → (Reached p s → ⊥) → outcome_of p s e ≡ (17, 0)
  pub then_14 : CheckAccepts p → Reached p s → (phase_words s.phase).phase ≡ 4 → outcome_of p s e ≡ (14, 0)
  pub then_13 : CheckAccepts p → Reached p s → is_status e ≡ true → (phase_words s.phase).phase ≡ 0 → outcome_of p s e ≡ (13, 0)
  pub else_none : CheckAccepts p → Reached p s → ((phase_words s.phase).phase ≡ 4 → ⊥)
      → (is_status e ≡ true → (phase_words s.phase).phase ≡ 0 → ⊥) → outcome_of p s e ≡ (0, 0)

-- 17 is exact: an accepted plan's machine lets a state in if and only if some ticks and statuses lead to it from the cold start; ticks and
-- status words of 32 bits are enough to lead there, where the frame length and the word that a stop kept are of 32 bits
pub record StrangeExactly (p : Plan) (s : State) (e : Event) : Type 0 where
  pub refused : (outcome_of p s e ≡ (17, 0)) ↔ (Reached p s → ⊥)
  pub let_in : (outcome_of p s e ≡ (17, 0) → ⊥) ↔ Reached p s
  pub by_words : frame_length p < 2 ^ 32 → kept_word s.phase < 2 ^ 32 → (outcome_of p s e ≡ (17, 0) → ⊥) ↔ ReachedWithin (2 ^ 32) p s

-- what leads there is the step by itself; the entry points lead to the same states
abbrev pub SameStates : Plan → Type 0
SameStates p = (events : List Event) → (history (machine_of p) events).state ≡ leads p cold events

-- a refusal, any number but 0, hands back the state that came, asks for nothing and leaves no trace; a cold start that is refused answers zeros
-- in Running with the mark false
pub record ChangesNothing (p : Plan) : Type 0 where
  pub back : (s : State) (e : Event) (number place : ℕ) → 0 < number → outcome_of p s e ≡ (number, place) → RefusedWith number place s (answer_of p s e)
  pub not_counted : (h : History) (e : Event) (number place : ℕ) → 0 < number → outcome_of p h.state e ≡ (number, place)
      → next (machine_of p) h e ≡ h
  pub no_start : (number place : ℕ) → 0 < number → outcome (verdict_of p) ≡ (number, place) → RefusedWith number place zeros (cold_of p)

pub record Answers (p : Plan) : Type 0 where
  pub check : RightVerdict p (verdict_of p)
  pub lookup : (t : ℕ) → RightWindow p t (lookup_of p t)
  pub words : (q : ℕ) → WordsRefusals p q
  pub events : (s : State) (e : Event) → EventRefusals p s e
  pub strange_exactly : CheckAccepts p → (s : State) (e : Event) → StrangeExactly p s e
  pub same_states : CheckAccepts p → SameStates p
  pub changes_nothing : ChangesNothing p

abbrev pub Demand1 : Type 0
Demand1 = (p : Plan) → Answers p
