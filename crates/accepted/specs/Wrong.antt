-- What each refusal says of a plan, in terms of its windows and rows, and which refusal a plan gets: the first in document 01's order
-- ("Refusal numbers and their place"). A refusal is asked about only where it stands in `order`, which has a plan's own windows and rows
-- and, for 5, its last window.
use Rattle.std.specs.Prelude.{List, ◌∷◌, ◌++◌, ◌≡◌, ℕ, ◌≤◌, ◌<◌, length, get_or}
use Rattle.refusal.specs.declared.Refusal.{Refusal}
use Rattle.refusal.specs.declared.Refusal.TheVariants.{Counts, ZeroBudget, WrongStart, UnknownOwner, WrongLength, UnknownPartition, BadSize, BadBase, BadAccess, NinthRow, Clash, TickPastFrame, NoCallOpen, MachineStopped, NoWordsFor, LogTooShort, StrangeState}
use Rattle.plan.specs.Plan.{Plan, frame_length, window_of, owner_of, offset_of, budget_of, row_of, CountsInRange}
use Rattle.records.specs.Records.{max_partition, end_of, start_of}
use Rattle.row.specs.Tests.{min_size, max_access}
use Rattle.row.specs.Addresses.{PowerOfTwo, MultipleOf, RowsClash}
use Rattle.rows.specs.Rows.{max_rows_each, rows_of}
use Rattle.plan.specs.Faults.{order}

abbrev pub Wrong : Plan → Refusal → Type 0
Wrong p Counts = CountsInRange p → ⊥
Wrong p (ZeroBudget i) = budget_of p i ≡ 0
Wrong p (WrongStart i) = offset_of p i ≡ start_of p.windows i → ⊥
Wrong p (UnknownOwner i) = max_partition < owner_of p i
Wrong p (WrongLength i) = end_of (window_of p i) ≡ frame_length p → ⊥
Wrong p (UnknownPartition i) = max_partition < (row_of p i).partition.0
Wrong p (BadSize i) = (min_size ≤ (row_of p i).size) × PowerOfTwo (row_of p i).size → ⊥
Wrong p (BadBase i) = MultipleOf (row_of p i).size (row_of p i).base → ⊥
Wrong p (BadAccess i) = max_access < (row_of p i).access
Wrong p (NinthRow i) = length (rows_of p.rows (row_of p i).partition.0 i) ≡ max_rows_each
Wrong p (Clash i) = (j : ℕ) × (j < i) × RowsClash (row_of p j) (row_of p i)
Wrong p TickPastFrame = ⊥
Wrong p NoCallOpen = ⊥
Wrong p MachineStopped = ⊥
Wrong p NoWordsFor = ⊥
Wrong p LogTooShort = ⊥
Wrong p StrangeState = ⊥

-- r is wrong of the plan, and nothing that is looked for before it
pub record FirstWrong (p : Plan) (r : Refusal) : Type 0 where
  pub before : List Refusal
  pub after : List Refusal
  pub stands : order p ≡ before ++ (r ∷ after)
  pub is_wrong : Wrong p r
  pub none_before : (i : ℕ) → i < length before → Wrong p (get_or before i r) → ⊥
