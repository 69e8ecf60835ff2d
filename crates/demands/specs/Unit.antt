-- Both halves of demand 3 together: "the latest region call was for that window's owner" and "no address that one partition may write can be
-- reached under another's words" (document 01, "Region words" and "The machine"). The host is taken to write the words of every region
-- call to the unit once it is asked, whatever status it then brings. What the unit's regions 0 to 7 held at first does not matter; its
-- other regions are off at first.
use Rattle.std.specs.Prelude.{Bool, cond, List, [], ◌∷◌, ℕ, eqb}
use Rattle.plan.specs.Plan.{Plan, owner_of}
use Rattle.records.specs.Records.{AllU32}
use Rattle.words.specs.Manual.{Mpu, programmed}
use Rattle.words.specs.Words.{words_of}
use Rattle.words.specs.Unit.{OthersOff, ExactlyTheRows, NothingOfAnother}
use Rattle.protocol.specs.declared.CallWords.{CallWords}
use Rattle.history.specs.Reached.{Event}
use Rattle.history.specs.History.{machine_of, Entry, called, answered, History, history}
use Rattle.demands.specs.Machine.{CheckAccepts, Runs}

-- call 2, a swap, brings the words of its partition
abbrev pub brings_words : CallWords → Bool
brings_words call = eqb call.number 2

-- the unit after calls and answers, the latest first
unfoldable pub unit_after : Plan → Mpu → List Entry → Mpu
unit_after p mpu [] = mpu
unit_after p mpu (answered word ∷ entries) = unit_after p mpu entries
unit_after p mpu (called call ∷ entries) =
    cond (brings_words call) (programmed (unit_after p mpu entries) (words_of p call.partition).slots) (unit_after p mpu entries)

pub record Shielded (p : Plan) (mpu : Mpu) (count : ℕ) (h : History) : Type 0 where
  -- at each address unprivileged code may do what the rows of the window's owner say, and nothing elsewhere
  pub exactly : ExactlyTheRows p (owner_of p h.state.current.0) (unit_after p mpu h.entries) count
  -- so nothing that another partition may write can be reached
  pub separated : NothingOfAnother p (owner_of p h.state.current.0) (unit_after p mpu h.entries) count

abbrev pub ShieldedWhileRunning : Type 0
ShieldedWhileRunning =
    (p : Plan) → AllU32 p.rows → CheckAccepts p → (mpu : Mpu) (count : ℕ) → OthersOff mpu count
    → (events : List Event) → Runs (history (machine_of p) events) → Shielded p mpu count (history (machine_of p) events)
