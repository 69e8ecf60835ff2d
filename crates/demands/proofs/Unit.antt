-- While the machine runs, the latest region call is that of its window's owner, so the unit is the one that its words were written to; and
-- no region call has switched another region on.
-- Assumes nothing.
use mathlib.Core.Bool.{Bool, true, false, cond}
use mathlib.Core.List.{List, [], ◌∷◌}
use mathlib.Core.Path.{◌≡◌, sym, ap, subst}
use Prim.Native.Nat.{ℕ}
use Rattle.plan.specs.Plan.{Plan, owner_of}
use Rattle.records.specs.Records.{AllU32}
use Rattle.accepted.specs.Accepted.{AcceptedIf}
use Rattle.words.specs.Manual.{Mpu, programmed}
use Rattle.words.specs.Words.{words_of}
use Rattle.words.specs.Unit.{OthersOff, ExactlyTheRows}
use Rattle.words.proofs.Programmed.{stay_off}
use Rattle.words.proofs.Unit.{words_give_the_rows, nothing_of_another}
use Rattle.history.specs.History.{machine_of, Entry, called, answered, history}
use Rattle.demands.specs.Unit.{brings_words, unit_after, ShieldedWhileRunning}
use Rattle.demands.proofs.Machine.{accepts, while_running}

module _ (p : Plan) (u32 : AllU32 p.rows) (a : AcceptedIf p) (mpu : Mpu) (count : ℕ) (others : OthersOff mpu count) where
  others_stay_off : (entries : List Entry) → OthersOff (unit_after p mpu entries) count
  unfolding unit_after
  others_stay_off [] = others
  others_stay_off (answered word ∷ entries) = others_stay_off entries
  others_stay_off (called call ∷ entries) = of (brings_words call) (others_stay_off entries)
    where
      of : (b : Bool) → OthersOff (unit_after p mpu entries) count
          → OthersOff (cond b (programmed (unit_after p mpu entries) (words_of p call.partition).slots) (unit_after p mpu entries)) count
      of true before = stay_off p u32 a call.partition (unit_after p mpu entries) count before
      of false before = before

pub shielded : ShieldedWhileRunning
unfolding unit_after
shielded p u32 ok mpu count others events run =
    let a = accepts p ok in
    let h = history (machine_of p) events in
    let r = while_running p a events run in
    let q = owner_of p h.state.current.0 in
    let known = a.owners_in_range h.state.current.0 r.only_window.is_window in
    let before = unit_after p mpu r.earlier in
    let unit : programmed before (words_of p q).slots ≡ unit_after p mpu h.entries = sym (ap (unit_after p mpu) r.calls) in
    let exactly : ExactlyTheRows p q (unit_after p mpu h.entries) count = subst (λ (m : Mpu). ExactlyTheRows p q m count) unit
    (words_give_the_rows p u32 a q known before count (others_stay_off p u32 a mpu count others r.earlier)) in
    record { exactly = exactly; separated = nothing_of_another p a q (unit_after p mpu h.entries) count exactly }
