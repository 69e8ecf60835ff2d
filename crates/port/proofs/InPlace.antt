-- A call in place tells and leaves what the by-value step answers, so what holds of that answer holds of the two.
-- Assumes nothing.
use mathlib.Core.Path.{◌≡◌, sym, subst, ◌∙◌}
use Rattle.switcher.specs.declared.Switcher.{Switcher}
use Rattle.switcher.specs.declared.Stepped.{Stepped}
use Rattle.in_place.specs.declared.Told.{Told}
use Rattle.in_place.specs.InPlace.{InPlace}
use Rattle.port.specs.InPlace.{whole, InPlaceClauses, InPlaceRefusals}
use Rattle.port.specs.Original.{Tick, MarkSaved, MarkSwapped, MarkResumed}
use Rattle.port.specs.Refusals.{StepRefusals}
use Rattle.port.proofs.Original.{original_clauses, left_open}
use Rattle.port.proofs.Refusals.{port_refusals}

is_whole : (r : Stepped) (answer : Told) (self : Switcher) → InPlace r answer self → r ≡ whole answer self
is_whole r answer self e = sym (λ i. whole (e.0 i) (e.1 i))

pub in_place_clauses : InPlaceClauses
in_place_clauses =
    record {
      tick = λ old self t answer e inv. subst (Tick old t) (is_whole _ answer self e) (original_clauses.tick old inv t);
      mark_saved = λ old self answer e inv. subst (MarkSaved old) (is_whole _ answer self e) (original_clauses.mark_saved old inv);
      mark_swapped = λ old self answer e inv. subst (MarkSwapped old) (is_whole _ answer self e) (original_clauses.mark_swapped old inv);
      mark_resumed = λ old self answer e inv. subst (MarkResumed old) (is_whole _ answer self e) (original_clauses.mark_resumed old inv);
      resumed_mark = λ old self answer e inv resume. (λ i. (e.1 i).swapped) ∙ left_open.resumed_mark old inv resume;
    }

pub in_place_refusals : InPlaceRefusals
in_place_refusals =
    record {
      tick = λ old self t answer e. subst (StepRefusals old) (is_whole _ answer self e) (port_refusals.tick old t);
      mark_saved = λ old self answer e. subst (StepRefusals old) (is_whole _ answer self e) (port_refusals.mark_saved old);
      mark_swapped = λ old self answer e. subst (StepRefusals old) (is_whole _ answer self e) (port_refusals.mark_swapped old);
      mark_resumed = λ old self answer e. subst (StepRefusals old) (is_whole _ answer self e) (port_refusals.mark_resumed old);
    }
