-- The numbers lose nothing: from them the call and the phase can be told again.
-- Assumes nothing.
use Rattle.std.specs.Prelude.{Option, Some, None}
use mathlib.Core.Path.{◌≡◌, refl, sym, ap, ◌∙◌}
use Prim.Native.Nat.{ℕ, zero, suc}
use Rattle.records.specs.declared.PartitionNo.{PartitionNo}
use Rattle.protocol.specs.declared.Call.{Call}
use Rattle.protocol.specs.declared.Call.TheVariants.{SaveFor, SwapFor, ResumeFor}
use Rattle.protocol.specs.declared.Stage.{Stage}
use Rattle.protocol.specs.declared.Stage.TheVariants.{Running, SaveCtx, ProgramRegions, Resume}
use Rattle.protocol.specs.declared.Cause.TheVariants.{WrongTick, TickInSwitch, BadStatus}
use Rattle.protocol.specs.declared.Phase.{Phase}
use Rattle.protocol.specs.declared.Phase.TheVariants.{At, Stopped}
use Rattle.protocol.specs.declared.CallWords.{CallWords}
use Rattle.protocol.specs.declared.PhaseWords.{PhaseWords}
use Rattle.protocol.specs.Numbers.{call_words, stage_number, phase_words}

call_named : ℕ → PartitionNo → Option Call
call_named zero q = None
call_named (suc zero) q = Some (SaveFor q)
call_named (suc (suc zero)) q = Some (SwapFor q)
call_named (suc (suc (suc n))) q = Some (ResumeFor q)

call_back : CallWords → Option Call
call_back w = call_named w.number (record { 0 = w.partition })

call_back_lem : (c : Option Call) → call_back (call_words c) ≡ c
unfolding call_back call_named
call_back_lem None = refl
call_back_lem (Some (SaveFor q)) = refl
call_back_lem (Some (SwapFor q)) = refl
call_back_lem (Some (ResumeFor q)) = refl

pub same_call : {c d : Option Call} → call_words c ≡ call_words d → c ≡ d
same_call {c} {d} e = sym (call_back_lem c) ∙ ap call_back e ∙ call_back_lem d

pub stage_named : ℕ → Stage
stage_named zero = Running
stage_named (suc zero) = SaveCtx
stage_named (suc (suc zero)) = ProgramRegions
stage_named (suc (suc (suc n))) = Resume

pub stage_back : (s : Stage) → stage_named (stage_number s) ≡ s
unfolding stage_named
stage_back Running = refl
stage_back SaveCtx = refl
stage_back ProgramRegions = refl
stage_back Resume = refl

phase_named : (cause : ℕ) → Stage → (word : ℕ) → Phase
phase_named zero stage word = At stage
phase_named (suc zero) stage word = Stopped stage (WrongTick word)
phase_named (suc (suc zero)) stage word = Stopped stage (TickInSwitch word)
phase_named (suc (suc (suc n))) stage word = Stopped stage (BadStatus word)

phase_back : PhaseWords → Phase
phase_back w = phase_named w.cause (stage_named w.stage) w.word

phase_back_lem : (x : Phase) → phase_back (phase_words x) ≡ x
unfolding phase_back phase_named
phase_back_lem (At stage) = ap At (stage_back stage)
phase_back_lem (Stopped stage (WrongTick t)) = ap (λ (s : Stage). Stopped s (WrongTick t)) (stage_back stage)
phase_back_lem (Stopped stage (TickInSwitch t)) = ap (λ (s : Stage). Stopped s (TickInSwitch t)) (stage_back stage)
phase_back_lem (Stopped stage (BadStatus word)) = ap (λ (s : Stage). Stopped s (BadStatus word)) (stage_back stage)

pub same_phase_lem : {x y : Phase} → phase_words x ≡ phase_words y → x ≡ y
same_phase_lem {x} {y} e = sym (phase_back_lem x) ∙ ap phase_back e ∙ phase_back_lem y
