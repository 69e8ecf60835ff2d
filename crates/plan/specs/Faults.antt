-- What is wrong with a plan, number by number, and the order in which it is looked for (document 01, "Refusal numbers and their
-- place"). Sums are whole numbers, so no sum wraps.
use Rattle.std.specs.Prelude.{Bool, false, not, ◌||◌, List, [], ◌∷◌, ◌++◌, ℕ, ◌-◌, ◌/◌, ◌%◌, eqb, ltb, length}
use Rattle.refusal.specs.declared.Refusal.{Refusal}
use Rattle.refusal.specs.declared.Refusal.TheVariants.{Counts, ZeroBudget, WrongStart, UnknownOwner, WrongLength, UnknownPartition, BadSize, BadBase, BadAccess, NinthRow, Clash, TickPastFrame, NoCallOpen, MachineStopped, NoWordsFor, LogTooShort, StrangeState}
use Rattle.refusal.specs.Verdict.{Verdict}
use Rattle.verdict.specs.First.{upward, first_of, refused}
use Rattle.records.specs.declared.Window.{Window}
use Rattle.row.specs.Tests.{unknown_partition, bad_size, bad_base, bad_access}
use Rattle.rows.specs.Tests.{wrong_row_count, ninth_row, clashes_before}
use Rattle.plan.specs.Plan.{Plan, max_windows, frame_length, window_count, row_count, window_of, row_of}
use Rattle.records.specs.Records.{max_partition, end_of, start_of}

-- 1: of lists this long, one ends inside a record, or holds too few or too many
unfoldable pub wrong_counts : ℕ → ℕ → Bool
wrong_counts windows rows =
    not (eqb (windows % 3) 0) || eqb (windows / 3) 0 || ltb max_windows (windows / 3) || wrong_row_count rows

-- 2, 3, 4
abbrev pub zero_budget : Window → Bool
zero_budget w = eqb w.budget 0

abbrev pub wrong_start : ℕ → Window → Bool
wrong_start start w = not (eqb w.offset start)

abbrev pub unknown_owner : Window → Bool
unknown_owner w = ltb max_partition w.owner.0

-- 5
abbrev pub wrong_length : ℕ → Window → Bool
wrong_length length last = not (eqb (end_of last) length)

-- the table's column "When"
unfoldable pub wrong : Plan → Refusal → Bool
wrong p Counts = wrong_counts (length p.windows) (length p.rows)
wrong p (ZeroBudget i) = zero_budget (window_of p i)
wrong p (WrongStart i) = wrong_start (start_of p.windows i) (window_of p i)
wrong p (UnknownOwner i) = unknown_owner (window_of p i)
wrong p (WrongLength i) = wrong_length (frame_length p) (window_of p i)
wrong p (UnknownPartition i) = unknown_partition (row_of p i)
wrong p (BadSize i) = bad_size (row_of p i)
wrong p (BadBase i) = bad_base (row_of p i)
wrong p (BadAccess i) = bad_access (row_of p i)
wrong p (NinthRow i) = ninth_row p.rows i
wrong p (Clash i) = refused (clashes_before p.rows i)
wrong p TickPastFrame = false
wrong p NoCallOpen = false
wrong p MachineStopped = false
wrong p NoWordsFor = false
wrong p LogTooShort = false
wrong p StrangeState = false

-- "1; then windows upward, each tested 2, 3, 4; then 5; then rows upward, each 6 to 11"
abbrev pub window_faults : ℕ → List Refusal
window_faults i = ZeroBudget i ∷ WrongStart i ∷ UnknownOwner i ∷ []

abbrev pub row_faults : ℕ → List Refusal
row_faults i = UnknownPartition i ∷ BadSize i ∷ BadBase i ∷ BadAccess i ∷ NinthRow i ∷ Clash i ∷ []

unfoldable pub past_counts : Plan → List Refusal
past_counts p =
    upward window_faults 0 (window_count p) ++ (WrongLength (window_count p - 1) ∷ upward row_faults 0 (row_count p))

unfoldable pub order : Plan → List Refusal
order p = Counts ∷ past_counts p

-- what `check` answers: the first in this order that is wrong of the plan
unfoldable pub verdict_of : Plan → Verdict
verdict_of p = first_of (wrong p) (order p)
