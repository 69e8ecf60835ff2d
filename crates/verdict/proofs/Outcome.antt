-- Number and place say which verdict it is: each verdict can be read off them again.
-- Assumes nothing.
use mathlib.Core.List.{List, [], ◌∷◌, map}
use mathlib.Core.Path.{◌≡◌, refl, sym, ap, ◌∙◌}
use Prim.Native.Nat.{ℕ}
use lib.ListN.{get_or}
use Rattle.refusal.specs.declared.Refusal.TheVariants.{Counts, ZeroBudget, WrongStart, UnknownOwner, WrongLength, UnknownPartition, BadSize, BadBase, BadAccess, NinthRow, Clash, TickPastFrame, NoCallOpen, MachineStopped, NoWordsFor, LogTooShort, StrangeState}
use Rattle.refusal.specs.declared.Refusal.{Refusal}
use Rattle.refusal.specs.Verdict.{Verdict, accepted}
use Rattle.std.specs.Prelude.{Ok, Err}
use Rattle.verdict.specs.Outcome.{outcome}

-- the refusals at a place, in the order of their numbers from 1
refusals : ℕ → List Refusal
refusals p =
    Counts ∷ ZeroBudget p ∷ WrongStart p ∷ UnknownOwner p ∷ WrongLength p ∷ UnknownPartition p ∷ BadSize p ∷ BadBase p ∷ BadAccess p
    ∷ NinthRow p ∷ Clash p ∷ TickPastFrame ∷ NoCallOpen ∷ MachineStopped ∷ NoWordsFor ∷ LogTooShort ∷ StrangeState ∷ []

verdict_of : ℕ × ℕ → Verdict
verdict_of o = get_or (accepted ∷ map Err (refusals o.1)) o.0 accepted

read_again : (v : Verdict) → verdict_of (outcome v) ≡ v
unfolding verdict_of refusals
read_again (Ok _) = refl
read_again (Err Counts) = refl
read_again (Err (ZeroBudget p)) = refl
read_again (Err (WrongStart p)) = refl
read_again (Err (UnknownOwner p)) = refl
read_again (Err (WrongLength p)) = refl
read_again (Err (UnknownPartition p)) = refl
read_again (Err (BadSize p)) = refl
read_again (Err (BadBase p)) = refl
read_again (Err (BadAccess p)) = refl
read_again (Err (NinthRow p)) = refl
read_again (Err (Clash p)) = refl
read_again (Err TickPastFrame) = refl
read_again (Err NoCallOpen) = refl
read_again (Err MachineStopped) = refl
read_again (Err NoWordsFor) = refl
read_again (Err LogTooShort) = refl
read_again (Err StrangeState) = refl

pub same_outcome : (v w : Verdict) → outcome v ≡ outcome w → v ≡ w
same_outcome v w e = sym (read_again v) ∙ ap verdict_of e ∙ read_again w
