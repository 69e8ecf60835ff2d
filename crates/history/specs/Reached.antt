-- The states that ticks and statuses, in any order, reach from a plan's cold start (document 01, refusal 17). What is refused, a status
-- while it runs and anything once it is stopped, changes nothing.
use Rattle.std.specs.Prelude.{List, [], ◌∷◌, ◌≡◌, ℕ, ◌<◌}
use Rattle.plan.specs.Plan.{Plan}
use Rattle.state.specs.declared.State.{State}
use Rattle.state.specs.declared.Answer.{Answer}
use Rattle.state.specs.Start.{cold_move}
use Rattle.machine.specs.Step.{timetable_of, tick_move, status_move}

pub data Event : Type 0 where
  tick status : ℕ → Event

abbrev pub move_of : Plan → State → Event → Answer
move_of p s (tick t) = tick_move (timetable_of p) s t
move_of p s (status word) = status_move p.windows s word

-- where events lead, in the order in which they come
unfoldable pub leads : Plan → State → List Event → State
leads p s [] = s
leads p s (e ∷ events) = leads p (move_of p s e).state events

abbrev pub Reached : Plan → State → Type 0
Reached p s = (events : List Event) × (leads p (cold_move p.windows).state events ≡ s)

-- the ticks and the statuses among events, in their order
abbrev pub ticks_of : List Event → List ℕ
ticks_of [] = []
ticks_of (tick t ∷ events) = t ∷ ticks_of events
ticks_of (status word ∷ events) = ticks_of events

abbrev pub statuses_of : List Event → List ℕ
statuses_of [] = []
statuses_of (tick t ∷ events) = statuses_of events
statuses_of (status word ∷ events) = word ∷ statuses_of events

abbrev pub word_of : Event → ℕ
word_of (tick t) = t
word_of (status word) = word

-- every tick and every status word is below a bound: that of the words that can arrive is 2 ^ 32
unfoldable pub Within : ℕ → List Event → Type 0
Within bound [] = Unit {0}
Within bound (e ∷ events) = (word_of e < bound) × Within bound events

abbrev pub ReachedWithin : ℕ → Plan → State → Type 0
ReachedWithin bound p s =
    (events : List Event) × Within bound events × (leads p (cold_move p.windows).state events ≡ s)
