-- A state that is lent four times (document 01: "`tick` and the three marks on a four-window state lent and changed in place"), to `tick` and to each
-- mark in turn: what each call answers and leaves is the by-value step's, from the state that the call before it left.
use Rattle.std.specs.Prelude.{ℕ}
use Rattle.switcher.specs.declared.Switcher.{Switcher}
use Rattle.switcher.specs.declared.Stepped.{Stepped}
use Rattle.switcher.specs.Switch.{tick_of, mark_saved_of, mark_swapped_of, mark_resumed_of}
use Rattle.in_place.specs.declared.Told.{Told}
use Rattle.in_place_cases.specs.declared.drive.Course.{Course}

-- what was told and the state that was left, as the by-value step answers them
abbrev pub whole : Told → Switcher → Stepped
whole told left = record { state = left; done = told.done; verdict = told.verdict }

abbrev pub said_saved : Switcher → ℕ → Stepped
said_saved s t = mark_saved_of (tick_of s t).state

abbrev pub said_swapped : Switcher → ℕ → Stepped
said_swapped s t = mark_swapped_of (said_saved s t).state

abbrev pub said_resumed : Switcher → ℕ → Stepped
said_resumed s t = mark_resumed_of (said_swapped s t).state

abbrev pub course_of : Switcher → ℕ → Course
course_of s t = record { ticked = tick_of s t; saved = said_saved s t; swapped = said_swapped s t; resumed = said_resumed s t }
