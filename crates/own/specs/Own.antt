-- The rows of one partition, as they are handed out: eight places, its rows in table order from the front, zeros in the others
-- (document 01, "A plan": "no partition has over 8 rows").
use Rattle.std.specs.Prelude.{cond, List, ◌++◌, ℕ, ◌+◌, ◌-◌, eqb, length, replicate, set, Result, Ok, Err}
use Rattle.refusal.specs.declared.Refusal.{Refusal}
use Rattle.refusal.specs.Verdict.{Verdict}
use Rattle.records.specs.declared.Row.{Row}
use Rattle.rows.specs.Rows.{max_rows_each}
use Rattle.plan.specs.Plan.{Plan, own_rows}
use Rattle.plan.specs.Faults.{verdict_of}
use Rattle.own.specs.declared.OwnRows.{OwnRows}

abbrev pub no_row : Row
no_row = record { partition = record { 0 = 0 }; base = 0; size = 0; access = 0 }

-- a list in the first places of an array of n, and d in the others
unfoldable pub padded : {A : Type 0} → ℕ → A → List A → List A
padded n d list = list ++ replicate (n - length list) d

unfoldable pub packed : List Row → OwnRows
packed own = record { rows = padded max_rows_each no_row own; count = length own }

-- a refusal hands out no rows
unfoldable pub owned : Verdict → List Row → Result OwnRows Refusal
owned (Ok _) own = Ok (packed own)
owned (Err r) own = Err r

unfoldable pub own_rows_of : Plan → ℕ → Result OwnRows Refusal
own_rows_of p q = owned (verdict_of p) (own_rows p q)

-- one row more, if it is the partition's, after those that are there
unfoldable pub with_own : OwnRows → Row → ℕ → OwnRows
with_own own r q =
    cond (eqb r.partition.0 q) (record { rows = set own.rows own.count r; count = own.count + 1 }) own
