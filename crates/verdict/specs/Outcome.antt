-- A verdict in document 01's numbers.
use Rattle.std.specs.Prelude.{ℕ, Ok, Err}
use Rattle.refusal.specs.Verdict.{Verdict}
use Rattle.refusal.specs.Table.{number_of, place_of}

-- the number and the place of a refusal, 0 and 0 where it accepts
abbrev pub outcome : Verdict → ℕ × ℕ
outcome (Ok _) = (0, 0)
outcome (Err r) = (number_of r, place_of r)
