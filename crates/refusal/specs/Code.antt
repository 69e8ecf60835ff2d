-- The host's error codes that document 01's table of refusals uses, at the values of the original's src/error.rs.
use Rattle.std.specs.Prelude.{ℤ, pos, neg_ℤ}

abbrev pub EINVAL : ℤ
EINVAL = neg_ℤ (pos 22)

abbrev pub ENOENT : ℤ
ENOENT = neg_ℤ (pos 2)

abbrev pub ENOSPC : ℤ
ENOSPC = neg_ℤ (pos 28)

abbrev pub EADDRINUSE : ℤ
EADDRINUSE = neg_ℤ (pos 112)

abbrev pub EAGAIN : ℤ
EAGAIN = neg_ℤ (pos 11)

abbrev pub ECANCELED : ℤ
ECANCELED = neg_ℤ (pos 140)

abbrev pub EBADF : ℤ
EBADF = neg_ℤ (pos 9)
