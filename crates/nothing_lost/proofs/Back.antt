-- A phase's words are taken for that phase, so a state's words are read as that state; and words that are read as a state have passed the test that they are its words.
-- Assumes nothing.
use Rattle.std.specs.Prelude.{is_some, Option, Some, None}
use mathlib.Core.Bool.{Bool, true, false, cond, ◌&&◌, true≢false}
use mathlib.Core.List.{List, [], ◌∷◌}
use mathlib.Core.Path.{◌≡◌, refl, sym, ap, ◌∙◌}
use Prim.Native.Nat.{ℕ, zero, suc, ◌<◌}
use native.Mathlib.Omega.{arith}
use lib.Dec.{eqb, ltb}
use borrow.Author.Tests.{eq-eqb, eqb-true, ltb-true}
use Rattle.protocol.specs.declared.Stage.{Stage}
use Rattle.protocol.specs.declared.Stage.TheVariants.{Running, SaveCtx, ProgramRegions, Resume}
use Rattle.protocol.specs.declared.Cause.TheVariants.{WrongTick, TickInSwitch, BadStatus}
use Rattle.protocol.specs.declared.Phase.{Phase}
use Rattle.protocol.specs.declared.Phase.TheVariants.{At, Stopped}
use Rattle.protocol.specs.declared.PhaseWords.{PhaseWords}
use Rattle.protocol.specs.Numbers.{stage_number, phase_words}
use Rattle.state.specs.declared.State.{State}
use Rattle.wire.specs.States.{flag, state_words, stage_at, phase_at, four_at, state_at, same_phase, is_state, read_state}
use Rattle.nothing_lost.specs.Back.{eight, StatesInWords}

stage_back : (stage : Stage) → stage_at (stage_number stage) ≡ stage
stage_back Running = refl
stage_back SaveCtx = refl
stage_back ProgramRegions = refl
stage_back Resume = refl

phase_back_lem : (p : Phase) → phase_at (phase_words p) ≡ p
phase_back_lem (At Running) = refl
phase_back_lem (At SaveCtx) = refl
phase_back_lem (At ProgramRegions) = refl
phase_back_lem (At Resume) = refl
phase_back_lem (Stopped stage (WrongTick t)) = ap (λ (s : Stage). Stopped s (WrongTick t)) (stage_back stage)
phase_back_lem (Stopped stage (TickInSwitch t)) = ap (λ (s : Stage). Stopped s (TickInSwitch t)) (stage_back stage)
phase_back_lem (Stopped stage (BadStatus word)) = ap (λ (s : Stage). Stopped s (BadStatus word)) (stage_back stage)

mark_back : (b : Bool) → eqb (flag b) 1 ≡ b
mark_back true = refl
mark_back false = refl

mark_small : (b : Bool) → ltb (flag b) 2 ≡ true
mark_small true = refl
mark_small false = refl

same_as_itself : (w : PhaseWords) → same_phase w w ≡ true
same_as_itself w = simp (eq-eqb w.phase _ refl, eq-eqb w.stage _ refl, eq-eqb w.cause _ refl, eq-eqb w.word _ refl)

-- a state's words pass
passes : (s : State) → is_state (state_words s) ≡ true
unfolding is_state
passes s =
    let w = phase_words s.phase in
    ap (λ (b : Bool). b && same_phase w (phase_words (phase_at w))) (mark_small s.swapped)
    ∙ ap (λ (p : Phase). same_phase w (phase_words p)) (phase_back_lem s.phase) ∙ same_as_itself w

taken_for : (s : State) → state_at (state_words s) ≡ s
taken_for s = λ i. record { current = s.current; target = s.target; due = s.due; swapped = mark_back s.swapped i; phase = phase_back_lem s.phase i }

comes_back : (s : State) → read_state (state_words s) ≡ Some s
comes_back s = ap (λ (b : Bool). cond b (Some (state_at (state_words s))) None) (passes s) ∙ ap Some (taken_for s)

-- words that are read as a state have passed the test
abbrev some_of : Option State → State → State
some_of None d = d
some_of (Some s) d = s

picked : (b : Bool) (x s : State) → cond b (Some x) None ≡ Some s → (b ≡ true) × (x ≡ s)
picked true x s e = (refl, ap (λ (r : Option State). some_of r s) e)
picked false x s e = absurd (true≢false (sym (ap is_some e)))

none_picked : (b : Bool) (x : State) → cond b (Some x) None ≡ None → b ≡ false
none_picked true x e = absurd (true≢false (ap is_some e))
none_picked false x e = refl

both : (a b : Bool) → (a && b) ≡ true → (a ≡ true) × (b ≡ true)
both true b e = (refl, e)
both false b e = absurd (true≢false (sym e))

same_means : (v w : PhaseWords) → same_phase v w ≡ true → w ≡ v
same_means v w e =
    let phases : Bool = eqb v.phase w.phase in
    let stages : Bool = eqb v.stage w.stage in
    let causes : Bool = eqb v.cause w.cause in
    let words : Bool = eqb v.word w.word in
    let four = both ((phases && stages) && causes) words e in
    let three = both (phases && stages) causes four.0 in
    let two = both phases stages three.0 in
    sym (λ i. record {
      phase = eqb-true v.phase w.phase two.0 i;
      stage = eqb-true v.stage w.stage two.1 i;
      cause = eqb-true v.cause w.cause three.1 i;
      word = eqb-true v.word w.word four.1 i;
    })

flag_of : (m : ℕ) → m < 2 → flag (eqb m 1) ≡ m
flag_of zero small = refl
flag_of (suc zero) small = refl
flag_of (suc (suc m)) small = absurd (omega arith)

-- so they are that state's words
module _ (current target due mark phase stage cause word : ℕ) where
  abbrev words : List ℕ
  words = eight current target due mark phase stage cause word

  passed_words : is_state words ≡ true → state_words (state_at words) ≡ words
  unfolding is_state
  passed_words e =
      let (small, same) = both (ltb mark 2) (same_phase (four_at words) (phase_words (phase_at (four_at words)))) e in
      let four = same_means (four_at words) (phase_words (phase_at (four_at words))) same in
      λ i. current ∷ target ∷ due ∷ flag_of mark (ltb-true mark 2 small) i ∷ (four i).phase ∷ (four i).stage ∷ (four i).cause ∷ (four i).word ∷ []

  read_as : (s : State) → read_state words ≡ Some s → state_words s ≡ words
  read_as s e =
      let (passes, is) = picked (is_state words) (state_at words) s e in
      ap state_words (sym is) ∙ passed_words passes

  none_has : read_state words ≡ None → (s : State) → state_words s ≡ words → ⊥
  none_has e s is = true≢false (sym (ap is_state (sym is) ∙ passes s) ∙ none_picked (is_state words) (state_at words) e)

  none_read : (b : Bool) → is_state words ≡ b → ((s : State) → state_words s ≡ words → ⊥) → read_state words ≡ None
  none_read true e none = absurd (none (state_at words) (passed_words e))
  none_read false e none = ap (λ (b : Bool). cond b (Some (state_at words)) None) e

pub states_in_words : StatesInWords
states_in_words =
    record {
      comes_back = comes_back;
      as_they_came = λ current target due mark phase stage cause word s.
          (read_as current target due mark phase stage cause word s, λ is. ap read_state (sym is) ∙ comes_back s);
      no_state = λ current target due mark phase stage cause word.
          (none_has current target due mark phase stage cause word, none_read current target due mark phase stage cause word _ refl);
    }
