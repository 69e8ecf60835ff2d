-- The original's calling form, document 01, "What must change shape": `tick` and the three marks on a state that is lent and
-- changed in place. What such a call tells is the by-value step's answer without the state, which is left where it was lent.
use Rattle.std.specs.Prelude.{◌≡◌}
use Rattle.switcher.specs.declared.Switcher.{Switcher}
use Rattle.switcher.specs.declared.Stepped.{Stepped}
use Rattle.in_place.specs.declared.Told.{Told}

abbrev pub told : Stepped → Told
told r = record { done = r.done; verdict = r.verdict }

-- what a contract says of its answer and of the state at exit, where the by-value step answers r
abbrev pub InPlace : Stepped → (answer : Told) (self : Switcher) → Type 0
InPlace r answer self = (answer ≡ told r) × (self ≡ r.state)
