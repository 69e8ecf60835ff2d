-- Demand 3 of the mission, sentence by sentence: "For any accepted plan and any finite sequence of ticks and statuses from a cold start ...". The
-- sentences are about any machine over a plan, told by its answers (`history`, crate `history`, specs/History.antt), so that they can be
-- held against a wrong one too (crate `cases`, specs/BadVersions.antt). Calls, phases and verdicts are document 01's numbers (crates `protocol` and
-- `refusal`).
use Rattle.std.specs.Prelude.{true, false, List, [], ◌∷◌, ◌++◌, ◌⊎◌, ◌≡◌, ℕ, zero, suc, ◌+◌, ◌%◌}
use Rattle.verdict.specs.Outcome.{outcome}
use Rattle.timeline.specs.Windows.{OnlyWindow, next_window}
use Rattle.records.specs.Records.{AllU32, end_of}
use Rattle.plan.specs.Plan.{Plan, frame_length, window_count, window_of, owner_of, offset_of, budget_of}
use Rattle.plan.specs.Faults.{verdict_of}
use Rattle.accepted.specs.Equal.{EqualBut}
use Rattle.words.specs.Slots.{Separated}
use Rattle.words.specs.Words.{slots_under}
use Rattle.protocol.specs.Numbers.{no_call, save_for, swap_for, resume_for, call_words, phase_of, phase_words}
use Rattle.state.specs.declared.State.{State}
use Rattle.state.specs.declared.Answer.{Answer}
use Rattle.state.specs.State.{in_phase}
use Rattle.history.specs.Reached.{Event, tick, status, word_of}
use Rattle.history.specs.History.{Machine, machine_of, Entry, called, answered, History, next, since, history, open_call}

-- "any accepted plan": the check's verdict on it is 'accepted', which is number 0 at place 0
abbrev pub CheckAccepts : Plan → Type 0
CheckAccepts p = outcome (verdict_of p) ≡ (0, 0)

-- 0 Running, 1 SaveCtx, 2 ProgramRegions, 3 Resume, 4 stopped
abbrev pub phase_number : History → ℕ
phase_number h = (phase_words h.state.phase).phase

abbrev pub Runs : History → Type 0
Runs h = phase_number h ≡ 0

abbrev pub HasStopped : History → Type 0
HasStopped h = phase_number h ≡ 4

-- the latest entry is a call that has no answer; while the machine goes on, it waits for one
abbrev pub Open : History → Type 0
Open h = open_call h.entries ≡ no_call → ⊥

-- "the machine stops at the first wrong tick, tick during a switch or nonzero status to an open call": the right tick is N modulo the
-- frame length, N being the ticks taken, and a switch is on while a call is open
abbrev pub right : Plan → History → ℕ
right p h = h.taken % frame_length p

abbrev pub Fault : Plan → History → Event → Type 0
Fault p h (tick t) = Open h ⊎ (t ≡ right p h → ⊥)
Fault p h (status word) = Open h × (word ≡ 0 → ⊥)

-- the first fault among events that come after a history
pub record FirstFault (p : Plan) (m : Machine) (from : History) (events : List Event) : Type 0 where
  pub before : List Event
  pub event : Event
  pub after : List Event
  pub in_order : events ≡ before ++ (event ∷ after)
  pub is_fault : Fault p (since m from before) event
  pub none_before : (b : List Event) (e : Event) (c : List Event) → before ≡ b ++ (e ∷ c) → Fault p (since m from b) e → ⊥

-- "A stop keeps the phase it happened in and its cause": 1 wrong tick, 2 tick in a switch, 3 bad status, by the number of that phase
abbrev pub cause_number : (stage : ℕ) → Event → ℕ
cause_number zero (tick t) = 1
cause_number (suc stage) (tick t) = 2
cause_number stage (status word) = 3

-- a status is entered, a tick is not
abbrev pub entered : Event → List Entry → List Entry
entered (tick t) entries = entries
entered (status word) entries = answered word ∷ entries

-- what is kept of the stop: the phase that the event came in, and the event. Nothing else changes, no tick is taken and no call asked
pub record Kept (before : History) (e : Event) (after : History) : Type 0 where
  pub stage : ℕ
  pub came_in : phase_words before.state.phase ≡ phase_of stage stage 0 0
  pub phase : phase_words after.state.phase ≡ phase_of 4 stage (cause_number stage e) (word_of e)
  pub nothing_else : after.state ≡ in_phase before.state after.state.phase
  pub not_taken : after.taken ≡ before.taken
  pub no_call_lem : after.entries ≡ entered e before.entries

-- "... and at nothing else"
pub record StopsExactly (p : Plan) (m : Machine) (events : List Event) : Type 0 where
  pub at_nothing_else : HasStopped (history m events) → FirstFault p m (history m []) events
  pub at_the_first : (f : FirstFault p m (history m []) events) → Kept (history m f.before) f.event (history m events)

-- a refusal with that number and place: the state comes back, and nothing is asked
pub record RefusedWith (number place : ℕ) (s : State) (a : Answer) : Type 0 where
  pub verdict : outcome a.verdict ≡ (number, place)
  pub state : a.state ≡ s
  pub no_call_lem : call_words a.call ≡ no_call

-- "stopped, it asks for nothing", and stays as it is whatever comes
pub record StaysStopped (m : Machine) (events : List Event) : Type 0 where
  pub asks_for_nothing : (e : Event) → RefusedWith 14 0 (history m events).state (m.answer (history m events).state e)
  pub stays : (more : List Event) → history m (events ++ more) ≡ history m events

-- "Cold start: ProgramRegions, current 0, target 0, due 0, mark false; asks swap(owner of 0)"
pub record Begins (p : Plan) (m : Machine) : Type 0 where
  pub verdict : outcome m.start.verdict ≡ (0, 0)
  pub phase : phase_words (history m []).state.phase ≡ phase_of 2 2 0 0
  pub current : (history m []).state.current.0 ≡ 0
  pub target : (history m []).state.target.0 ≡ 0
  pub due : (history m []).state.due ≡ 0
  pub mark : (history m []).state.swapped ≡ false
  pub none_taken : (history m []).taken ≡ 0
  pub asks : (history m []).entries ≡ called (swap_for (owner_of p 0)) ∷ []

-- while it goes on, it runs or a call is open
abbrev pub RunsOrWaits : History → Type 0
RunsOrWaits h = Runs h ⊎ Open h

-- the right tick is taken; at a window's last it brings the save of the window's owner, and else it changes nothing but what is due
pub record RightTick (p : Plan) (m : Machine) (h : History) : Type 0 where
  pub taken : (next m h (tick (right p h))).taken ≡ h.taken + 1
  pub last : right p h + 1 ≡ end_of (window_of p h.state.current.0)
      → (next m h (tick (right p h))).entries ≡ called (save_for (owner_of p h.state.current.0)) ∷ h.entries
  pub not_last : (right p h + 1 ≡ end_of (window_of p h.state.current.0) → ⊥)
      → Runs (next m h (tick (right p h))) × ((next m h (tick (right p h))).entries ≡ h.entries)

-- "A zero for save or swap brings the next call; for resume, it runs"
pub record ZeroGoesOn (p : Plan) (m : Machine) (h : History) : Type 0 where
  pub for_save : (q : ℕ) → open_call h.entries ≡ save_for q
      → (next m h (status 0)).entries
      ≡ called (swap_for (owner_of p (next_window (window_count p) h.state.current.0))) ∷ answered 0 ∷ h.entries
  pub for_swap : (q : ℕ) → open_call h.entries ≡ swap_for q → (next m h (status 0)).entries ≡ called (resume_for q) ∷ answered 0 ∷ h.entries
  pub for_resume : (q : ℕ) → open_call h.entries ≡ resume_for q
      → Runs (next m h (status 0)) × (owner_of p (next m h (status 0)).state.current.0 ≡ q) × ((next m h (status 0)).entries ≡ answered 0 ∷ h.entries)

-- zero answers lead to Running: from a cold start in two, from anywhere but a stop in three
abbrev pub TwoZeros : Machine → Type 0
TwoZeros m = Runs (history m (status 0 ∷ status 0 ∷ []))

abbrev pub ThreeZeros : Machine → List Event → Type 0
ThreeZeros m events = Runs (history m (events ++ (status 0 ∷ status 0 ∷ status 0 ∷ [])))

-- "Whenever it runs, its window is the only one that holds N modulo the frame length ..., and the latest region call was for that window's
-- owner, answered zero, then resumed": the latest entry is the first of `entries`
pub record WhileRunning (p : Plan) (h : History) : Type 0 where
  pub only_window : OnlyWindow (window_count p) (offset_of p) (budget_of p) (right p h) h.state.current.0
  pub due : h.state.due ≡ right p h
  pub swapped : h.state.swapped ≡ true
  pub earlier : List Entry
  pub calls : let q = owner_of p h.state.current.0 in
      h.entries ≡ answered 0 ∷ called (resume_for q) ∷ answered 0 ∷ called (swap_for q) ∷ earlier

-- all of it, for one plan and one machine; "no address that one partition may write can be reached under another's words" is about the plan
-- alone
pub record Sentences (p : Plan) (m : Machine) : Type 0 where
  pub begins : Begins p m
  pub stops : (events : List Event) → StopsExactly p m events
  pub stays_stopped : (events : List Event) → HasStopped (history m events) → StaysStopped m events
  pub runs_or_waits : (events : List Event) → (HasStopped (history m events) → ⊥) → RunsOrWaits (history m events)
  pub right_tick : (events : List Event) → Runs (history m events) → RightTick p m (history m events)
  pub zero_goes_on : (events : List Event) → (HasStopped (history m events) → ⊥) → ZeroGoesOn p m (history m events)
  pub two_zeros : TwoZeros m
  pub three_zeros : (events : List Event) → (HasStopped (history m events) → ⊥) → ThreeZeros m events
  pub while_running : (events : List Event) → Runs (history m events) → WhileRunning p (history m events)
  pub addresses : Separated (slots_under p) (slots_under p)

-- `AllU32` is a promise of every list that is lent (crate `records`, `lent`)
abbrev pub Demand3 : Type 0
Demand3 = (p : Plan) → AllU32 p.rows → CheckAccepts p → Sentences p (machine_of p)

-- "Two accepted plans equal in windows, frame length and, in order, all rows but those of partition q, given the same events, make the same
-- calls and states" (document 01, "Region words")
abbrev pub RowsDoNotMatter : Type 0
RowsDoNotMatter =
    (q : ℕ) (p p' : Plan) → CheckAccepts p → CheckAccepts p' → EqualBut q p p'
    → (events : List Event) → history (machine_of p) events ≡ history (machine_of p') events
