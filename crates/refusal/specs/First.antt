-- Tests are made in an order, and the first that fails is the refusal (document 01, "Refusal numbers and their place", "Order").
use Rattle.std.specs.Prelude.{Bool, cond, Ok, Err}
use Rattle.refusal.specs.declared.Refusal.{Refusal}
use Rattle.refusal.specs.Verdict.{Verdict, accepted}

-- one test: refused if it finds the fault
unfoldable pub refuse_if : Bool → Refusal → Verdict
refuse_if fault r = cond fault (Err r) accepted

-- the first verdict if it refuses, else the second
unfoldable pub or_else : Verdict → Verdict → Verdict
or_else (Ok _) v = v
or_else (Err r) v = Err r
