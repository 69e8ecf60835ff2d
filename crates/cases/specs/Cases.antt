-- The cases that document 01 marks with *, in one table ("Frame A and its
-- neighbours"). An outcome is a number and a place, 0 and 0 where accepted.
use Rattle.std.specs.Prelude.{List, [], ◌∷◌, ◌++◌, ◌≡◌, ℕ, replicate}
use Rattle.verdict.specs.Outcome.{outcome}
use Rattle.major_frame.specs.declared.MajorFrame.{MajorFrame}
use Rattle.major_frame.specs.Frame.{current_window}
use Rattle.switcher.specs.Switch.{zeros, new_of}
use Rattle.plan.specs.Plan.{Plan, plan_of}
use Rattle.plan.specs.Faults.{verdict_of}
use Rattle.lookup.specs.Lookup.{lookup_of}
use Rattle.protocol.specs.declared.PhaseWords.{PhaseWords}
use Rattle.protocol.specs.Numbers.{phase_of, phase_words}
use Rattle.machine.specs.declared.RunAnswer.{RunAnswer}
use Rattle.machine.specs.Run.{run_of, log_of}
use Rattle.words.specs.declared.Pair.{Pair}
use Rattle.words.specs.Slots.{write, Reachable}
use Rattle.words.specs.Words.{words_of, slots_under}

-- four windows of owners 0, 1, 0, 2, and some rows
unfoldable pub four : (offsets budgets : ℕ × ℕ × ℕ × ℕ) (length : ℕ) (rows : List ℕ) → Plan
four (o₀, o₁, o₂, o₃) (b₀, b₁, b₂, b₃) length rows =
    plan_of (record { length = length }) (0 ∷ o₀ ∷ b₀ ∷ 1 ∷ o₁ ∷ b₁ ∷ 0 ∷ o₂ ∷ b₂ ∷ 2 ∷ o₃ ∷ b₃ ∷ []) rows

unfoldable pub frame_a : (rows : List ℕ) → Plan
frame_a rows = four (0, 10, 30, 35) (10, 20, 5, 15) 50 rows

abbrev pub row : (partition base size access : ℕ) → List ℕ
row partition base size access = partition ∷ base ∷ size ∷ access ∷ []

-- the same frame in the four-window port, with another budget for window 2
abbrev pub port_a : (budget₂ : ℕ) → MajorFrame
port_a b₂ =
    record {
      partition_id = 0 ∷ 1 ∷ 0 ∷ 2 ∷ [];
      offset = 0 ∷ 10 ∷ 30 ∷ 35 ∷ [];
      budget = 10 ∷ 20 ∷ b₂ ∷ 15 ∷ [];
      frame_len = 50;
    }

-- what the check, a lookup and a request for words answer, in numbers
abbrev pub checked : Plan → ℕ × ℕ
checked p = outcome (verdict_of p)

abbrev pub window : Plan → ℕ → ℕ
window p t = (lookup_of p t).window.0

abbrev pub lookup : Plan → ℕ → ℕ × ℕ
lookup p t = outcome (lookup_of p t).verdict

abbrev pub port_lookup : ℕ → ℕ × ℕ
port_lookup t = outcome (current_window (port_a 5) t).verdict

abbrev pub port_window : ℕ → ℕ
port_window t = (current_window (port_a 5) t).window

-- partition 0 with the rows of the cases on region words, in its slots 0, 1 and 2
unfoldable pub three_rows : Plan
three_rows = frame_a (row 0 0x20000000 1024 1 ++ row 0 0x08000000 65536 2 ++ row 0 0x40000000 32 0)

abbrev pub pair : (first second : ℕ) → Pair
pair first second = record { first = first; second = second }

-- runs of frame A over ticks 0 to 9, with a log of 4 + 6 × 10 words that hold 9
abbrev pub ten_ticks : List ℕ
ten_ticks = 0 ∷ 1 ∷ 2 ∷ 3 ∷ 4 ∷ 5 ∷ 6 ∷ 7 ∷ 8 ∷ 9 ∷ []

abbrev pub run_a : (statuses : List ℕ) → RunAnswer
run_a statuses = run_of (frame_a []) ten_ticks statuses (replicate 64 9)

abbrev pub log_a : (statuses : List ℕ) → List ℕ
log_a statuses = log_of (frame_a []) ten_ticks statuses (replicate 64 9)

-- the end of a run: its outcome, the words of its phase, current and target window, due tick; ticks and statuses used, calls written
pub record Ends (r : RunAnswer) (phase : PhaseWords) (current target due : ℕ) (counts : ℕ × ℕ × ℕ) : Type 0 where
  pub accepted : outcome r.verdict ≡ (0, 0)
  pub in_phase_lem : phase_words r.state.phase ≡ phase
  pub in_window : (r.state.current.0 ≡ current) × (r.state.target.0 ≡ target)
  pub next_tick_lem : r.state.due ≡ due
  pub used : (r.ticks, r.statuses, r.calls) ≡ counts

pub record Table : Type 0 where
  pub a_is_accepted : checked (frame_a []) ≡ (0, 0)
  pub tick_9 : (lookup (frame_a []) 9 ≡ (0, 0)) × (window (frame_a []) 9 ≡ 0)
  pub tick_10 : (lookup (frame_a []) 10 ≡ (0, 0)) × (window (frame_a []) 10 ≡ 1)
  pub tick_49 : (lookup (frame_a []) 49 ≡ (0, 0)) × (window (frame_a []) 49 ≡ 3)
  pub tick_50 : (lookup (frame_a []) 50 ≡ (12, 0)) × (window (frame_a []) 50 ≡ 0)
  pub port_tick_9 : (port_lookup 9 ≡ (0, 0)) × (port_window 9 ≡ 0)
  pub port_tick_10 : (port_lookup 10 ≡ (0, 0)) × (port_window 10 ≡ 1)
  pub port_tick_49 : (port_lookup 49 ≡ (0, 0)) × (port_window 49 ≡ 3)
  pub port_tick_50 : (port_lookup 50 ≡ (12, 0)) × (port_window 50 ≡ 0)
  pub port_new_refused : (outcome (new_of (port_a 0)).verdict ≡ (2, 2)) × ((new_of (port_a 0)).state ≡ zeros)
  pub sum_past_32_bits : checked (four (0, 1, 2, 4294967295) (1, 1, 4294967293, 1) 0 []) ≡ (5, 3)
  pub longest_frame : checked (four (0, 1, 2, 4294967294) (1, 1, 4294967292, 1) 4294967295 []) ≡ (0, 0)
  pub row_at_the_top : checked (frame_a (row 0 0xFFFFFFE0 32 1)) ≡ (0, 0)
  pub row_in_a_writable_row : checked (frame_a (row 1 0x20000000 1024 1 ++ row 2 0x200003E0 32 0)) ≡ (11, 1)
  pub three_rows_lem : outcome (words_of three_rows 0).verdict ≡ (0, 0)
  pub three_rows_words : (words_of three_rows 0).slots
      ≡ pair 0x20000010 0x13080013 ∷ pair 0x08000011 0x0608001F ∷ pair 0x40000012 0x16080009
      ∷ pair 0x13 0 ∷ pair 0x14 0 ∷ pair 0x15 0 ∷ pair 0x16 0 ∷ pair 0x17 0 ∷ []
  pub five_zeros : Ends (run_a (0 ∷ 0 ∷ 0 ∷ 0 ∷ 0 ∷ [])) (phase_of 0 0 0 0) 1 1 10 (10, 5, 5)
  pub five_zeros_log : log_a (0 ∷ 0 ∷ 0 ∷ 0 ∷ 0 ∷ []) ≡ (2 ∷ 0 ∷ 3 ∷ 0 ∷ 1 ∷ 0 ∷ 2 ∷ 1 ∷ 3 ∷ 1 ∷ []) ++ replicate 54 9
  pub stopped_on_7 : Ends (run_a (0 ∷ 0 ∷ 0 ∷ 7 ∷ [])) (phase_of 4 2 3 7) 0 1 10 (10, 4, 4)
  pub stopped_on_7_log : log_a (0 ∷ 0 ∷ 0 ∷ 7 ∷ []) ≡ (2 ∷ 0 ∷ 3 ∷ 0 ∷ 1 ∷ 0 ∷ 2 ∷ 1 ∷ []) ++ replicate 56 9

-- there are addresses that a partition may write: the last byte of the first of the three rows
abbrev pub last_byte : ℕ
last_byte = 0x200003FF

abbrev pub LastByteWritten : Type 0
LastByteWritten = Reachable (slots_under three_rows 0) write last_byte
