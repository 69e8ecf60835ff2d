-- There is no other case than document 01's: by the phase, then by the tests that the step makes there.
-- Assumes nothing.
use mathlib.Core.List.{List}
use mathlib.Core.Path.{◌≡◌, refl, ◌∙◌}
use Prim.Native.Nat.{ℕ, ◌+◌}
use native.Mathlib.Decide.{ℕ_discrete}
use Rattle.records.specs.Records.{nth_window, end_of}
use Rattle.protocol.specs.declared.Stage.TheVariants.{Running, SaveCtx, ProgramRegions, Resume}
use Rattle.protocol.specs.declared.Phase.{Phase}
use Rattle.protocol.specs.declared.Phase.TheVariants.{At, Stopped}
use Rattle.state.specs.declared.State.{State}
use Rattle.machine.specs.Step.{Timetable, zero_at}
use Rattle.history.specs.Cases.{TickCase, window_goes_on, window_ends, wrong_tick, tick_in_a_switch, tick_too_late, StatusCase, saved, programmed, runs_again, bad_status, status_unasked_for, status_too_late}
use Rattle.machine.proofs.StepLaws.{taken_last, taken_within, tick_stopped, tick_in_switch, tick_wrong, tick_due, status_stopped, status_zero, status_bad, status_unasked}

pub tick_case : (tt : Timetable) (s : State) (t : ℕ) → TickCase tt s t
tick_case tt s t = go s.phase refl
  where
    go : (phase : Phase) → s.phase ≡ phase → TickCase tt s t
    go (At Running) e =
        elim (ℕ_discrete t s.due) [
          | no wrong ↦ wrong_tick e wrong (tick_wrong tt s t Running e refl wrong)
          | yes due ↦
              elim (ℕ_discrete (t + 1) (end_of (nth_window tt.windows s.current.0))) [
                | yes last ↦ window_ends e due last (tick_due tt s t Running e refl due ∙ taken_last tt s t last)
                | no more ↦ window_goes_on e due more (tick_due tt s t Running e refl due ∙ taken_within tt s t more)
              ]
        ]
    go (At SaveCtx) e = tick_in_a_switch SaveCtx e refl (tick_in_switch tt s t SaveCtx e refl)
    go (At ProgramRegions) e = tick_in_a_switch ProgramRegions e refl (tick_in_switch tt s t ProgramRegions e refl)
    go (At Resume) e = tick_in_a_switch Resume e refl (tick_in_switch tt s t Resume e refl)
    go (Stopped stage cause) e = tick_too_late stage cause e (tick_stopped tt s t stage cause e)

pub status_case : (windows : List ℕ) (s : State) (word : ℕ) → StatusCase windows s word
unfolding zero_at
status_case windows s word = go s.phase refl
  where
    go : (phase : Phase) → s.phase ≡ phase → StatusCase windows s word
    go (Stopped stage cause) e = status_too_late stage cause e (status_stopped windows s word stage cause e)
    go (At Running) e = status_unasked_for e (status_unasked windows s word Running e refl)
    go (At SaveCtx) e =
        elim (ℕ_discrete word 0) [
          | yes zero ↦ saved e zero (status_zero windows s word SaveCtx e refl zero)
          | no bad ↦ bad_status SaveCtx e refl bad (status_bad windows s word SaveCtx e refl bad)
        ]
    go (At ProgramRegions) e =
        elim (ℕ_discrete word 0) [
          | yes zero ↦ programmed e zero (status_zero windows s word ProgramRegions e refl zero)
          | no bad ↦ bad_status ProgramRegions e refl bad (status_bad windows s word ProgramRegions e refl bad)
        ]
    go (At Resume) e =
        elim (ℕ_discrete word 0) [
          | yes zero ↦ runs_again e zero (status_zero windows s word Resume e refl zero)
          | no bad ↦ bad_status Resume e refl bad (status_bad windows s word Resume e refl bad)
        ]
