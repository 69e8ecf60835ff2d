-- An answer begins with the three words of its verdict.
-- Assumes nothing.
use mathlib.Core.List.{List, ◌∷◌, ◌++◌}
use mathlib.Core.Path.{◌≡◌, refl}
use Prim.Native.Nat.{ℕ}
use lib.ListN.{get_or}
use Rattle.refusal.specs.Verdict.{Verdict}
use Rattle.std.specs.Prelude.{Ok, Err}
use Rattle.wire.specs.Answers.{verdict_words}

pub begins : (v : Verdict) (rest : List ℕ) → get_or (verdict_words v) 0 0 ∷ get_or (verdict_words v) 1 0 ∷ get_or (verdict_words v) 2 0 ∷ rest ≡ verdict_words v ++ rest
begins (Ok _) rest = refl
begins (Err r) rest = refl
