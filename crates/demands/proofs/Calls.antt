-- The calls are the plan's: what crate `history` proves of an accepted plan, of one that the check accepts.
-- Assumes nothing.
use mathlib.Core.Path.{◌≡◌, refl}
use native.Mathlib.Omega.{arith}
use Rattle.protocol.specs.declared.Stage.TheVariants.{Running, SaveCtx, ProgramRegions, Resume}
use Rattle.protocol.specs.declared.Cause.TheVariants.{WrongTick, TickInSwitch, BadStatus}
use Rattle.protocol.specs.declared.Phase.{Phase}
use Rattle.protocol.specs.declared.Phase.TheVariants.{At, Stopped}
use Rattle.protocol.specs.Numbers.{phase_words}
use Rattle.history.specs.History.{machine_of, history}
use Rattle.history.proofs.HistoryLaws.{history_inv}
use Rattle.history.proofs.CallLaws.{calls_are_the_plans, calls_at_most, running_calls}
use Rattle.demands.specs.Calls.{ThePlansCalls}
use Rattle.demands.proofs.Machine.{accepts}

-- phase 0 is Running
running : (phase : Phase) → (phase_words phase).phase ≡ 0 → phase ≡ At Running
running (At Running) e = refl
running (At SaveCtx) e = absurd (omega arith)
running (At ProgramRegions) e = absurd (omega arith)
running (At Resume) e = absurd (omega arith)
running (Stopped stage (WrongTick t)) e = absurd (omega arith)
running (Stopped stage (TickInSwitch t)) e = absurd (omega arith)
running (Stopped stage (BadStatus word)) e = absurd (omega arith)

pub the_plans_calls : ThePlansCalls
the_plans_calls p ok events =
    let a = accepts p ok in
    let h = history (machine_of p) events in
    let calls = calls_are_the_plans p a events in
    record {
      the_plans = calls;
      at_most = calls_at_most p a events;
      while_running = λ runs. running_calls p a h (history_inv p a events) calls (running h.state.phase runs);
    }
