-- How a verdict, a phase and a call look in what the programs print: document 01's numbers in decimal, the number and the place of a refusal ("Refusal numbers
-- and their place").
use Rattle.std.specs.Prelude.{Ok, Err, ℕ, List, ◌++◌, codes}
use Rattle.std.specs.Fmt.{decimal}
use Rattle.refusal.specs.Table.{number_of, place_of}
use Rattle.refusal.specs.Verdict.{Verdict}
use Rattle.protocol.specs.declared.PhaseWords.{PhaseWords}
use Rattle.protocol.specs.declared.CallWords.{CallWords}

-- two numbers with a space between them
abbrev pub two_numbers : (a b : ℕ) → List ℕ
two_numbers a b = decimal a ++ (codes " " ++ decimal b)

-- number and place, 0 0 where accepted
abbrev pub verdict_numbers : Verdict → List ℕ
verdict_numbers (Ok _) = two_numbers 0 0
verdict_numbers (Err r) = two_numbers (number_of r) (place_of r)

-- the phase, the stage, the cause and its word
abbrev pub phase_numbers : PhaseWords → List ℕ
phase_numbers w = decimal w.phase ++ (codes " " ++ (decimal w.stage ++ (codes " " ++ two_numbers w.cause w.word)))

-- the call and the partition
abbrev pub call_numbers : CallWords → List ℕ
call_numbers w = two_numbers w.number w.partition

-- `accepted`, or `refused` with number and place behind tabs
abbrev pub outcome_text : Verdict → List ℕ
outcome_text (Ok _) = codes "accepted"
outcome_text (Err r) = codes "refused\t" ++ (decimal (number_of r) ++ (codes "\t" ++ decimal (place_of r)))
