-- "Show that the statement admits one answer only" (document 01, "Nothing left to choose"): two results that meet what a function ensures, called with the same
-- lifetimes and arguments, are equal, whatever the parameters are at exit. A contract is `Post`, what the checker reads off the source, so this is about the
-- contracts themselves.
use Rattle.std.specs.Prelude.{◌≡◌, ℕ, ◌<◌}

module _ {Lifetimes : Type 0} {Arguments Result AtExit : Lifetimes → Type 0} (Post : (κs : Lifetimes) → Arguments κs → Result κs → AtExit κs → Type 0) where
  abbrev pub OneAnswer : Type 0
  OneAnswer =
      (κs : Lifetimes) (arguments : Arguments κs) (one other : Result κs) (ends ends' : AtExit κs) → Post κs arguments one ends → Post κs arguments other ends'
      → one ≡ other

  -- where the result is a reference, or something is lent to be written: the same of what is read there
  abbrev pub OneReading : {A : Type 0} → ((κs : Lifetimes) → Result κs → AtExit κs → A) → Type 0
  OneReading reading =
      (κs : Lifetimes) (arguments : Arguments κs) (one other : Result κs) (ends ends' : AtExit κs) → Post κs arguments one ends → Post κs arguments other ends'
      → reading κs one ends ≡ reading κs other ends'

  -- where the result tells whether a write failed: the same of two results that are `Ok`
  abbrev pub OneAnswerWhere : ((κs : Lifetimes) → Result κs → Type 0) → Type 0
  OneAnswerWhere ok =
      (κs : Lifetimes) (arguments : Arguments κs) (one other : Result κs) (ends ends' : AtExit κs) → Post κs arguments one ends → Post κs arguments other ends'
      → ok κs one → ok κs other → one ≡ other

-- a contract that leaves something to choose is none of them: a number below 2 can be 0 or 1
abbrev pub below_two : (κs arguments : Unit {0}) → ℕ → (ends : Unit {0}) → Type 0
below_two κs arguments r ends = r < 2

-- and one that says nothing of what was lent does not fix what is read there
abbrev pub silent_at_exit : (κs arguments : Unit {0}) → ℕ → (ends : ℕ) → Type 0
silent_at_exit κs arguments r ends = r ≡ 0
