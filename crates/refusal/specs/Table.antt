-- Each refusal has a number, a place (the window or the row that it concerns, else 0) and a host code: document 01,
-- "Refusal numbers and their place", row by row.
use Rattle.std.specs.Prelude.{cond, ◌||◌, ℕ, eqb, ℤ}
use Rattle.refusal.specs.declared.Refusal.{Refusal}
use Rattle.refusal.specs.declared.Refusal.TheVariants.{Counts, ZeroBudget, WrongStart, UnknownOwner, WrongLength, UnknownPartition, BadSize, BadBase, BadAccess, NinthRow, Clash, TickPastFrame, NoCallOpen, MachineStopped, NoWordsFor, LogTooShort, StrangeState}
use Rattle.refusal.specs.Code.{EINVAL, ENOENT, ENOSPC, EADDRINUSE, EAGAIN, ECANCELED, EBADF}

abbrev pub number_of : Refusal → ℕ
number_of Counts = 1
number_of (ZeroBudget w) = 2
number_of (WrongStart w) = 3
number_of (UnknownOwner w) = 4
number_of (WrongLength w) = 5
number_of (UnknownPartition r) = 6
number_of (BadSize r) = 7
number_of (BadBase r) = 8
number_of (BadAccess r) = 9
number_of (NinthRow r) = 10
number_of (Clash r) = 11
number_of TickPastFrame = 12
number_of NoCallOpen = 13
number_of MachineStopped = 14
number_of NoWordsFor = 15
number_of LogTooShort = 16
number_of StrangeState = 17

abbrev pub place_of : Refusal → ℕ
place_of Counts = 0
place_of (ZeroBudget w) = w
place_of (WrongStart w) = w
place_of (UnknownOwner w) = w
place_of (WrongLength w) = w
place_of (UnknownPartition r) = r
place_of (BadSize r) = r
place_of (BadBase r) = r
place_of (BadAccess r) = r
place_of (NinthRow r) = r
place_of (Clash r) = r
place_of TickPastFrame = 0
place_of NoCallOpen = 0
place_of MachineStopped = 0
place_of NoWordsFor = 0
place_of LogTooShort = 0
place_of StrangeState = 0

-- the host code of a number; the numbers that are not named, and later ones, have EINVAL
unfoldable pub code_of : ℕ → ℤ
code_of n =
    cond (eqb n 4 || eqb n 6 || eqb n 15) ENOENT
    (cond (eqb n 10 || eqb n 16) ENOSPC
    (cond (eqb n 11) EADDRINUSE
    (cond (eqb n 13) EAGAIN
    (cond (eqb n 14) ECANCELED
    (cond (eqb n 17) EBADF EINVAL)))))

abbrev pub host_code_of : Refusal → ℤ
host_code_of r = code_of (number_of r)
