-- What each definition of the step says where its tests are known.
-- Assumes nothing.
use mathlib.Core.Bool.{true, false}
use mathlib.Core.List.{List}
use mathlib.Core.Path.{◌≡◌, sym, ap, ◌∙◌}
use Prim.Native.Nat.{ℕ, ◌+◌}
use borrow.Author.Tests.{eq-eqb, ne_eqb}
use Rattle.refusal.specs.declared.Refusal.TheVariants.{NoCallOpen}
use Rattle.std.specs.Prelude.{Err}
use Rattle.refusal.proofs.Tests.{chosen, passed}
use Rattle.timeline.specs.Windows.{next_tick}
use Rattle.records.specs.Records.{nth_window, end_of}
use Rattle.protocol.specs.declared.Stage.{Stage}
use Rattle.protocol.specs.declared.Cause.{Cause}
use Rattle.protocol.specs.declared.Cause.TheVariants.{WrongTick, TickInSwitch, BadStatus}
use Rattle.protocol.specs.declared.Phase.{Phase}
use Rattle.protocol.specs.declared.Phase.TheVariants.{At, Stopped}
use Rattle.protocol.specs.Phase.{call_open}
use Rattle.state.specs.declared.State.{State}
use Rattle.state.specs.State.{ticked}
use Rattle.state.specs.Answer.{quiet, stop, refused_answer}
use Rattle.machine.specs.Step.{Timetable, save, tick_taken, tick_at, tick_in, tick_move, zero_at, reply_at, status_at, status_in, status_move}

module _ (tt : Timetable) (s : State) (t : ℕ) where
  pub taken_last : t + 1 ≡ end_of (nth_window tt.windows s.current.0)
      → tick_taken tt s t
      ≡ save tt.count tt.windows (ticked s (next_tick tt.length t))
  unfolding tick_taken
  taken_last last = chosen _ _ (eq-eqb _ _ last)

  pub taken_within : (t + 1 ≡ end_of (nth_window tt.windows s.current.0) → ⊥)
      → tick_taken tt s t ≡ quiet (ticked s (next_tick tt.length t))
  unfolding tick_taken
  taken_within more = passed _ _ (ne_eqb _ _ more)

  -- at a stage
  module _ (stage : Stage) where
    pub at_in_switch : call_open stage ≡ true → tick_at tt s stage t ≡ stop s stage (TickInSwitch t)
    unfolding tick_at
    at_in_switch waits = chosen _ _ waits

    pub at_wrong : call_open stage ≡ false → (t ≡ s.due → ⊥) → tick_at tt s stage t ≡ stop s stage (WrongTick t)
    unfolding tick_at
    at_wrong runs wrong = passed _ _ runs ∙ passed _ _ (ne_eqb _ _ wrong)

    pub at_due : call_open stage ≡ false → t ≡ s.due → tick_at tt s stage t ≡ tick_taken tt s t
    unfolding tick_at
    at_due runs right = passed _ _ runs ∙ chosen _ _ (eq-eqb _ _ right)

  -- in a phase
  pub tick_stopped : (stage : Stage) (cause : Cause) → s.phase ≡ Stopped stage cause → tick_move tt s t ≡ quiet s
  unfolding tick_move tick_in
  tick_stopped stage cause e = ap (λ (phase : Phase). tick_in tt s phase t) e

  module _ (stage : Stage) (e : s.phase ≡ At stage) where
    pub tick_at_lem : tick_move tt s t ≡ tick_at tt s stage t
    unfolding tick_move tick_in
    tick_at_lem = ap (λ (phase : Phase). tick_in tt s phase t) e

    pub tick_in_switch : call_open stage ≡ true → tick_move tt s t ≡ stop s stage (TickInSwitch t)
    tick_in_switch waits = tick_at_lem ∙ at_in_switch stage waits

    pub tick_wrong : call_open stage ≡ false → (t ≡ s.due → ⊥) → tick_move tt s t ≡ stop s stage (WrongTick t)
    tick_wrong runs wrong = tick_at_lem ∙ at_wrong stage runs wrong

    pub tick_due : call_open stage ≡ false → t ≡ s.due → tick_move tt s t ≡ tick_taken tt s t
    tick_due runs right = tick_at_lem ∙ at_due stage runs right

module _ (windows : List ℕ) (s : State) (word : ℕ) where
  module _ (stage : Stage) where
    reply_zero : word ≡ 0 → reply_at windows s stage word ≡ zero_at windows s stage
    unfolding reply_at
    reply_zero zero = chosen _ _ (eq-eqb _ _ zero)

    reply_bad : (word ≡ 0 → ⊥) → reply_at windows s stage word ≡ stop s stage (BadStatus word)
    unfolding reply_at
    reply_bad bad = passed _ _ (ne_eqb _ _ bad)

    pub at_zero : call_open stage ≡ true → word ≡ 0 → status_at windows s stage word ≡ zero_at windows s stage
    unfolding status_at
    at_zero waits zero = chosen _ _ waits ∙ reply_zero zero

    pub at_bad : call_open stage ≡ true → (word ≡ 0 → ⊥) → status_at windows s stage word ≡ stop s stage (BadStatus word)
    unfolding status_at
    at_bad waits bad = chosen _ _ waits ∙ reply_bad bad

    pub at_unasked : call_open stage ≡ false → status_at windows s stage word ≡ refused_answer s (Err NoCallOpen)
    unfolding status_at
    at_unasked runs = passed _ _ runs

  pub status_stopped : (stage : Stage) (cause : Cause) → s.phase ≡ Stopped stage cause → status_move windows s word ≡ quiet s
  unfolding status_move status_in
  status_stopped stage cause e = ap (λ (phase : Phase). status_in windows s phase word) e

  module _ (stage : Stage) (e : s.phase ≡ At stage) where
    pub status_at_lem : call_open stage ≡ true → status_move windows s word ≡ status_at windows s stage word
    unfolding status_move status_in status_at
    status_at_lem waits = ap (λ (phase : Phase). status_in windows s phase word) e ∙ chosen _ _ waits ∙ sym (chosen _ _ waits)

    pub status_zero : call_open stage ≡ true → word ≡ 0 → status_move windows s word ≡ zero_at windows s stage
    status_zero waits zero = status_at_lem waits ∙ at_zero stage waits zero

    pub status_bad : call_open stage ≡ true → (word ≡ 0 → ⊥) → status_move windows s word ≡ stop s stage (BadStatus word)
    status_bad waits bad = status_at_lem waits ∙ at_bad stage waits bad

    pub status_unasked : call_open stage ≡ false → status_move windows s word ≡ quiet s
    unfolding status_move status_in
    status_unasked runs = ap (λ (phase : Phase). status_in windows s phase word) e ∙ passed _ _ runs
