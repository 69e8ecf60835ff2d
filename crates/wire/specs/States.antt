-- A state in eight words (document 01, "The machine": "a state has the current window, the target window, the due tick, the `swapped` mark and a
-- phase"): the four, then the phase's four words (`phase_words` of crate `protocol`). Any eight words may come back; those that no state has are no
-- state.
use Rattle.std.specs.Prelude.{Option, Some, None, Bool, true, false, cond, ◌&&◌, List, [], ◌∷◌, ℕ, eqb, ltb, get_or}
use Rattle.protocol.specs.declared.Stage.{Stage}
use Rattle.protocol.specs.declared.Stage.TheVariants.{Running, SaveCtx, ProgramRegions, Resume}
use Rattle.protocol.specs.declared.Cause.{Cause}
use Rattle.protocol.specs.declared.Cause.TheVariants.{WrongTick, TickInSwitch, BadStatus}
use Rattle.protocol.specs.declared.Phase.{Phase}
use Rattle.protocol.specs.declared.Phase.TheVariants.{At, Stopped}
use Rattle.protocol.specs.declared.PhaseWords.{PhaseWords}
use Rattle.protocol.specs.Numbers.{phase_of, phase_words}
use Rattle.state.specs.declared.State.{State}

abbrev pub flag : Bool → ℕ
flag true = 1
flag false = 0

abbrev pub state_words : State → List ℕ
state_words s =
    let w = phase_words s.phase in
    s.current.0 ∷ s.target.0 ∷ s.due ∷ flag s.swapped ∷ w.phase ∷ w.stage ∷ w.cause ∷ w.word ∷ []

-- the state that words would be, if they are one's
abbrev pub stage_at : ℕ → Stage
stage_at n = cond (eqb n 1) SaveCtx (cond (eqb n 2) ProgramRegions (cond (eqb n 3) Resume Running))

abbrev pub cause_at : (number word : ℕ) → Cause
cause_at n word = cond (eqb n 1) (WrongTick word) (cond (eqb n 2) (TickInSwitch word) (BadStatus word))

abbrev pub phase_at : PhaseWords → Phase
phase_at w = cond (eqb w.phase 4) (Stopped (stage_at w.stage) (cause_at w.cause w.word)) (At (stage_at w.stage))

abbrev pub four_at : List ℕ → PhaseWords
four_at w = phase_of (get_or w 4 0) (get_or w 5 0) (get_or w 6 0) (get_or w 7 0)

abbrev pub state_at : List ℕ → State
state_at w = record { current = record { 0 = get_or w 0 0 }; target = record { 0 = get_or w 1 0 }; due = get_or w 2 0; swapped = eqb (get_or w 3 0) 1; phase = phase_at (four_at w) }

abbrev pub same_phase : PhaseWords → PhaseWords → Bool
same_phase a b = ((eqb a.phase b.phase && eqb a.stage b.stage) && eqb a.cause b.cause) && eqb a.word b.word

-- a mark is 0 or 1, and the phase's words are those of the phase that they would be
unfoldable pub is_state : List ℕ → Bool
is_state w = ltb (get_or w 3 0) 2 && same_phase (four_at w) (phase_words (phase_at (four_at w)))

abbrev pub read_state : List ℕ → Option State
read_state w = cond (is_state w) (Some (state_at w)) None
