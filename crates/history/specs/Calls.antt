-- Which calls a plan's machine asks for (document 01, "The machine"): the plan alone tells. The owner of each window, in turn, is swapped in, resumed
-- and, when the window ends, saved; so there are a swap and a resume for window 0's owner, and then a save, a swap and a resume for each window that follows.
use Rattle.std.specs.Prelude.{List, [], ◌∷◌, ◌≡◌, ℕ, zero, suc, ◌+◌, ◌*◌, ◌/◌, ◌%◌}
use Rattle.timeline.specs.Windows.{windows_ended}
use Rattle.plan.specs.Plan.{Plan, frame_length, window_count, owner_of, offset_of, budget_of}
use Rattle.protocol.specs.declared.CallWords.{CallWords}
use Rattle.protocol.specs.Numbers.{save_for, swap_for, resume_for, phase_words}
use Rattle.history.specs.History.{Entry, called, answered, History}

-- the owner of the window whose turn comes after so many windows: after the last it is window 0's again
abbrev pub owner_after : Plan → ℕ → ℕ
owner_after p windows = owner_of p (windows % window_count p)

abbrev pub turn_call : (owner which : ℕ) → CallWords
turn_call q zero = swap_for q
turn_call q (suc zero) = resume_for q
turn_call q (suc (suc which)) = save_for q

-- the k-th call, from 0
unfoldable pub call_at : Plan → ℕ → CallWords
call_at p k = turn_call (owner_after p (k / 3)) (k % 3)

-- the first m, the latest first as in a history
unfoldable pub first_calls : Plan → ℕ → List CallWords
first_calls p zero = []
first_calls p (suc m) = call_at p m ∷ first_calls p m

abbrev pub calls_in : List Entry → List CallWords
calls_in [] = []
calls_in (called call ∷ entries) = call ∷ calls_in entries
calls_in (answered word ∷ entries) = calls_in entries

-- how many windows have ended after N ticks
abbrev pub ended_after : Plan → ℕ → ℕ
ended_after p N = windows_ended (window_count p) (offset_of p) (budget_of p) (frame_length p) N

-- how many calls there have been, by the number of the phase that the machine is in or stopped in: 1 SaveCtx, the last of a window's three is open;
-- 2 ProgramRegions, the next one's swap; 3 Resume and 0 Running, its resume
abbrev pub call_count : (stage windows : ℕ) → ℕ
call_count zero windows = 3 * windows + 2
call_count (suc zero) windows = 3 * windows
call_count (suc (suc zero)) windows = 3 * windows + 1
call_count (suc (suc (suc stage))) windows = 3 * windows + 2

-- the calls so far are the first m, m by the phase and N
abbrev pub CallsAreThePlans : Plan → History → Type 0
CallsAreThePlans p h = calls_in h.entries ≡ first_calls p (call_count (phase_words h.state.phase).stage (ended_after p h.taken))
