-- States that go out in words and come back (document 01, "The machine", and "any plan, tick, status word or state may arrive"). What eight words are
-- read as is a state exactly if they are that state's words: so a state that goes out and comes back is the same state, and words that no state has
-- (a phase or a cause that does not exist, a mark that is neither 0 nor 1, a word where that phase has none) are none.
use Rattle.std.specs.Prelude.{List, [], ◌∷◌, ◌↔◌, ◌≡◌, ℕ, Some, None}
use Rattle.state.specs.declared.State.{State}
use Rattle.wire.specs.States.{state_words, read_state}

abbrev pub eight : (current target due mark phase stage cause word : ℕ) → List ℕ
eight current target due mark phase stage cause word = current ∷ target ∷ due ∷ mark ∷ phase ∷ stage ∷ cause ∷ word ∷ []

pub record StatesInWords : Type 0 where
  pub comes_back : (s : State) → read_state (state_words s) ≡ Some s
  pub as_they_came : (current target due mark phase stage cause word : ℕ) (s : State)
      → (read_state (eight current target due mark phase stage cause word) ≡ Some s) ↔ (state_words s ≡ eight current target due mark phase stage cause word)
  pub no_state : (current target due mark phase stage cause word : ℕ)
      → (read_state (eight current target due mark phase stage cause word) ≡ None) ↔ ((s : State) → state_words s ≡ eight current target due mark phase stage cause word → ⊥)
