-- What a call tells is what the step that it takes says of itself: whether it was done, and its verdict.
-- Assumes nothing.
use mathlib.Core.Path.{◌≡◌, refl}
use Rattle.switcher.specs.declared.Stepped.{Stepped}
use Rattle.in_place.specs.InPlace.{told}

pub told_is : (r : Stepped) → ((told r).done ≡ r.done) × ((told r).verdict ≡ r.verdict)
told_is r = (refl, refl)
