-- What a turn takes, how often there can be one, and what it leaves in the log.
-- Assumes nothing.
use mathlib.Core.Bool.{Bool, true, false, ◌&&◌, true≢false}
use mathlib.Core.List.{List}
use mathlib.Core.Path.{◌≡◌, refl, sym, ap, ◌∙◌}
use Prim.Native.Nat.{ℕ, suc, ◌+◌, ◌/◌, ◌≤◌, ◌<◌}
use native.Mathlib.Decide.{dec_lt}
use native.Mathlib.Omega.{arith}
use borrow.Author.Tests.{le-leb, lt-leb}
use lib.Dec.{ltb}
use lib.ListN.{length, get_or}
use Rattle.refusal.specs.declared.Refusal.{Refusal}
use Rattle.refusal.specs.declared.Refusal.TheVariants.{LogTooShort}
use Rattle.refusal.specs.Verdict.{Verdict, accepted}
use Rattle.std.specs.Prelude.{Ok, Err, Option, Some, None, is_some}
use Rattle.refusal.specs.First.{refuse_if, or_else}
use Rattle.verdict.proofs.First.{answers, answers_else}
use Rattle.refusal.proofs.Tests.{chosen, passed}
use Rattle.plan.specs.Plan.{Plan}
use Rattle.plan.specs.Faults.{verdict_of}
use Rattle.protocol.specs.Phase.{is_stopped}
use Rattle.run_log.specs.Log.{too_short, asks, with_call}
use Rattle.run_log.proofs.LogLaws.{stays, grows}
use Rattle.state.specs.declared.Answer.{Answer}
use Rattle.state.specs.Start.{cold_move, cold_of}
use Rattle.state.proofs.StartLaws.{cold_refused, cold_accepted}
use Rattle.machine.specs.Machine.{tick_of, status_of}
use Rattle.machine.specs.declared.Course.{Course}
use Rattle.machine.specs.Run.{took, tick_turn, status_turn, turn, Progress, with_logged, on_or_end, go_on, left, ended, refused_run, run_verdict, whole, run_of, log_of}

-- of what was taken there is one
taken_or : Option Course → Course → Course
taken_or None d = d
taken_or (Some c) d = c

taken_once : {x y : Course} → ◌≡◌ {A = Option Course} (Some x) (Some y) → x ≡ y
unfolding taken_or
taken_once {x} {y} e = ap (λ t. taken_or t x) e

module _ (p : Plan) (c : Course) where
  pub takes_tick : (ticks : List ℕ) → c.ticks < length ticks
      → tick_turn p ticks c ≡ Some (took (tick_of p c.state (get_or ticks c.ticks 0)) (c.ticks + 1) c.statuses)
  unfolding tick_turn
  takes_tick ticks some = passed _ _ (lt-leb _ _ some)

  pub no_tick : (ticks : List ℕ) → length ticks ≤ c.ticks → tick_turn p ticks c ≡ None
  unfolding tick_turn
  no_tick ticks none = chosen _ _ (le-leb _ _ none)

  pub takes_status : (statuses : List ℕ) → c.statuses < length statuses
      → status_turn p statuses c ≡ Some (took (status_of p c.state (get_or statuses c.statuses 0)) c.ticks (c.statuses + 1))
  unfolding status_turn
  takes_status statuses some = passed _ _ (lt-leb _ _ some)

  pub no_status : (statuses : List ℕ) → length statuses ≤ c.statuses → status_turn p statuses c ≡ None
  unfolding status_turn
  no_status statuses none = chosen _ _ (le-leb _ _ none)

module _ (p : Plan) (ticks statuses : List ℕ) (c : Course) where
  pub turn_stopped : is_stopped c.state.phase ≡ true → turn p ticks statuses c ≡ None
  unfolding turn
  turn_stopped stopped = chosen _ _ stopped

  pub turn_open : is_stopped c.state.phase ≡ false → asks c.call ≡ true → turn p ticks statuses c ≡ status_turn p statuses c
  unfolding turn
  turn_open goes waits = passed _ _ goes ∙ chosen _ _ waits

  pub turn_quiet : is_stopped c.state.phase ≡ false → asks c.call ≡ false → turn p ticks statuses c ≡ tick_turn p ticks c
  unfolding turn
  turn_quiet goes none = passed _ _ goes ∙ passed _ _ none

  -- a turn that takes something leaves one turn fewer, whether that is a tick or a status
  module _ (x : Course) (takes : turn p ticks statuses c ≡ Some x) where
    never : turn p ticks statuses c ≡ None → ⊥
    never e = true≢false (ap is_some (sym takes ∙ e))

    after : {y : Course} → turn p ticks statuses c ≡ Some y → left ticks statuses c ≡ suc (left ticks statuses y)
        → left ticks statuses c ≡ suc (left ticks statuses x)
    after is fewer = fewer ∙ ap (λ (y : Course). suc (left ticks statuses y)) (taken_once (sym is ∙ takes))

    by_tick : turn p ticks statuses c ≡ tick_turn p ticks c → left ticks statuses c ≡ suc (left ticks statuses x)
    by_tick is =
        elim (dec_lt c.ticks (length ticks)) [
          | yes some ↦ after (is ∙ takes_tick p c ticks some) (omega arith)
          | no none ↦ absurd (never (is ∙ no_tick p c ticks (omega arith)))
        ]

    by_status : turn p ticks statuses c ≡ status_turn p statuses c → left ticks statuses c ≡ suc (left ticks statuses x)
    by_status is =
        elim (dec_lt c.statuses (length statuses)) [
          | yes some ↦ after (is ∙ takes_status p c statuses some) (omega arith)
          | no none ↦ absurd (never (is ∙ no_status p c statuses (omega arith)))
        ]

    pub one_turn_fewer : left ticks statuses c ≡ suc (left ticks statuses x)
    one_turn_fewer = of (is_stopped c.state.phase) (asks c.call) refl refl
      where
        of : (stopped asked : Bool) → is_stopped c.state.phase ≡ stopped → asks c.call ≡ asked
            → left ticks statuses c ≡ suc (left ticks statuses x)
        of true asked e f = absurd (never (turn_stopped e))
        of false true e f = by_status (turn_open e f)
        of false false e f = by_tick (turn_quiet e f)

module _ (p : Plan) (ticks statuses : List ℕ) (g : Progress) (turns : ℕ) where
  pub one_turn_more : (c : Course) → turn p ticks statuses g.course ≡ Some c
      → go_on p ticks statuses (suc turns) g ≡ go_on p ticks statuses turns (with_logged g c)
  unfolding go_on
  one_turn_more c takes = ap (λ t. on_or_end t (λ c. go_on p ticks statuses turns (with_logged g c)) (with_logged g g.course)) takes

  pub all_done : turn p ticks statuses g.course ≡ None → go_on p ticks statuses (suc turns) g ≡ with_logged g g.course
  unfolding go_on
  all_done none = ap (λ t. on_or_end t (λ c. go_on p ticks statuses turns (with_logged g c)) (with_logged g g.course)) none

-- the call of the last answer goes into the log, once, if there is one and room for it
module _ (g : Progress) (c : Course) where
  pub logs_the_call : asks g.course.call ≡ true → g.calls < length g.log / 2
      → ((with_logged g c).calls ≡ g.calls + 1) × ((with_logged g c).log ≡ with_call g.log g.calls g.course.call)
  logs_the_call asked room = grows g.log g.calls g.course.call asked room

  pub logs_nothing : asks g.course.call ≡ false → ((with_logged g c).calls ≡ g.calls) × ((with_logged g c).log ≡ g.log)
  logs_nothing none = stays g.log g.calls g.course.call (ap (λ (b : Bool). b && ltb g.calls (length g.log / 2)) none)

-- the verdict: the plan's own numbers, then 16
cold_says : (p : Plan) (v : Verdict) → verdict_of p ≡ v → (cold_of p).verdict ≡ v
unfolding cold_move
cold_says p (Ok _) e = ap (λ (a : Answer). a.verdict) (cold_accepted p e)
cold_says p (Err r) e = ap (λ (a : Answer). a.verdict) (cold_refused p r e)

pub cold_verdict : (p : Plan) → (cold_of p).verdict ≡ verdict_of p
cold_verdict p = cold_says p (verdict_of p) refl

module _ (p : Plan) (ticks log : List ℕ) where
  pub plan_first : (r : Refusal) → verdict_of p ≡ Err r → run_verdict p ticks log ≡ Err r
  unfolding run_verdict or_else
  plan_first r e = rw e

  pub then_16 : verdict_of p ≡ accepted → too_short (length log) (length ticks) ≡ true → run_verdict p ticks log ≡ Err LogTooShort
  unfolding run_verdict or_else refuse_if
  then_16 e short = rw (e, short)

  pub let_in : verdict_of p ≡ accepted → too_short (length log) (length ticks) ≡ false → run_verdict p ticks log ≡ accepted
  unfolding run_verdict or_else refuse_if
  let_in e long = rw (e, long)

module _ (p : Plan) (ticks statuses log : List ℕ) where
  pub runs_refused : (r : Refusal) → run_verdict p ticks log ≡ Err r
      → (run_of p ticks statuses log ≡ refused_run (Err r)) × (log_of p ticks statuses log ≡ log)
  unfolding run_of log_of
  runs_refused r e = (answers_else _ _ r e ∙ ap refused_run e, answers_else _ _ r e)

  pub runs_whole : run_verdict p ticks log ≡ accepted
      → (run_of p ticks statuses log ≡ ended (whole p ticks statuses log)) × (log_of p ticks statuses log ≡ (whole p ticks statuses log).log)
  unfolding run_of log_of
  runs_whole e = (answers _ _ e, answers _ _ e)
