-- The original's `old(self)` and `self`: `tick` and the three marks on a state that is lent and changed in place (document 01, "What must change shape"). `old` is
-- the state at entry, `self` the state at exit and `answer` what the caller is told; what each contract says of them is `InPlace` of the by-value step. Each
-- clause of the original then holds of them, and each refusal is as it is by value. docs/CONTRACTS.md has a row a clause.
use Rattle.std.specs.Prelude.{true, ◌≡◌, ℕ}
use Rattle.protocol.specs.declared.Stage.TheVariants.{Resume}
use Rattle.switcher.specs.declared.Switcher.{Switcher}
use Rattle.switcher.specs.declared.Stepped.{Stepped}
use Rattle.switcher.specs.Switch.{Inv, tick_of, mark_saved_of, mark_swapped_of, mark_resumed_of}
use Rattle.in_place.specs.declared.Told.{Told}
use Rattle.in_place.specs.InPlace.{InPlace}
use Rattle.port.specs.Original.{Tick, MarkSaved, MarkSwapped, MarkResumed}
use Rattle.port.specs.Refusals.{StepRefusals}

-- what was told and the state that was left, as the by-value step answers them
abbrev pub whole : Told → Switcher → Stepped
whole answer self = record { state = self; done = answer.done; verdict = answer.verdict }

-- each clause, behind `old(self).inv()`; and what the source leaves open of the mark
pub record InPlaceClauses : Type 0 where
  pub tick : (old self : Switcher) (t : ℕ) (answer : Told) → InPlace (tick_of old t) answer self → Inv old → Tick old t (whole answer self)
  pub mark_saved : (old self : Switcher) (answer : Told) → InPlace (mark_saved_of old) answer self → Inv old → MarkSaved old (whole answer self)
  pub mark_swapped : (old self : Switcher) (answer : Told) → InPlace (mark_swapped_of old) answer self → Inv old → MarkSwapped old (whole answer self)
  pub mark_resumed : (old self : Switcher) (answer : Told) → InPlace (mark_resumed_of old) answer self → Inv old → MarkResumed old (whole answer self)
  pub resumed_mark : (old self : Switcher) (answer : Told) → InPlace (mark_resumed_of old) answer self → Inv old → old.phase ≡ Resume → self.swapped ≡ true

-- of any state: the number and its place, nothing done, and the state left as it was
pub record InPlaceRefusals : Type 0 where
  pub tick : (old self : Switcher) (t : ℕ) (answer : Told) → InPlace (tick_of old t) answer self → StepRefusals old (whole answer self)
  pub mark_saved : (old self : Switcher) (answer : Told) → InPlace (mark_saved_of old) answer self → StepRefusals old (whole answer self)
  pub mark_swapped : (old self : Switcher) (answer : Told) → InPlace (mark_swapped_of old) answer self → StepRefusals old (whole answer self)
  pub mark_resumed : (old self : Switcher) (answer : Told) → InPlace (mark_resumed_of old) answer self → StepRefusals old (whole answer self)
