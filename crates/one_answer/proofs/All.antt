-- Each public function, by its name: both results are the definition that the contract names, so they are each other. tests/one_answer holds this list against
-- the source.
-- Assumes nothing.
use mathlib.Core.Path.{◌≡◌, refl, sym, ◌∙◌}
use Rattle.std.specs.Prelude.{IsOk, Result, Ok, Err}
use denote.RattleType.{RattleType}
use denote.Param.Laws.{Laws}
use mir.Syntax.{Dict}
use Rattle.std.specs.declared.io.Print.{Ghosts}
use Prim.Native.Nat.{ℕ}
use native.Mathlib.Omega.{arith}
use contract.Lifetimes.{Lfts}
use denote.MutBor.{MutBor}
use Rattle.switcher.specs.declared.Switcher.{Switcher}
use Rattle.switcher.specs.declared.Stepped.{Stepped}
use Rattle.switcher.specs.Switch.{tick_of, mark_saved_of, mark_swapped_of, mark_resumed_of}
use Rattle.in_place.specs.declared.Told.{Told}
use Rattle.in_place.specs.InPlace.{InPlace}
use Rattle.std.specs.declared.fmt.Display.{Ghosts as Shown}
use Rattle.one_answer.specs.One.{OneAnswer, OneReading, OneAnswerWhere, below_two, silent_at_exit}
use Rattle.refusal.proofs.Refusal.number.Reads as refusal-refusal-number
use Rattle.refusal.proofs.Refusal.place.Reads as refusal-refusal-place
use Rattle.refusal.proofs.Refusal.host_code.Reads as refusal-refusal-host-code
use Rattle.refusal.proofs.or_refuse.Reads as refusal-or-refuse
use Rattle.timeline.proofs.next_of.Reads as timeline-next-of
use Rattle.records.proofs.lent.Reads as records-lent
use Rattle.records.proofs.nth_window.Reads as records-nth-window
use Rattle.records.proofs.window_end.Reads as records-window-end
use Rattle.records.proofs.nth_row.Reads as records-nth-row
use Rattle.row.proofs.row_fault.Reads as row-row-fault
use Rattle.row.proofs.clashes.Reads as row-clashes
use Rattle.rows.proofs.wrong_row_count.Reads as rows-wrong-row-count
use Rattle.rows.proofs.verdict_of.Reads as rows-verdict-of
use Rattle.plan.proofs.Plan.new.Reads as plan-plan-new
use Rattle.plan.proofs.Plan.length.Reads as plan-plan-length
use Rattle.plan.proofs.Plan.windows.Reads as plan-plan-windows
use Rattle.plan.proofs.Plan.rows.Reads as plan-plan-rows
use Rattle.plan.proofs.Plan.check.Reads as plan-plan-check
use Rattle.lookup.proofs.lookup.Reads as lookup-lookup
use Rattle.own.proofs.own_rows.Reads as own-own-rows
use Rattle.region.proofs.words_of.Reads as region-words-of
use Rattle.protocol.proofs.Stage.call_open.Reads as protocol-stage-call-open
use Rattle.protocol.proofs.Phase.stage.Reads as protocol-phase-stage
use Rattle.protocol.proofs.Phase.can_be.Reads as protocol-phase-can-be
use Rattle.protocol.proofs.Phase.kept_word.Reads as protocol-phase-kept-word
use Rattle.protocol.proofs.Stage.number.Reads as protocol-stage-number
use Rattle.protocol.proofs.call_words.Reads as protocol-call-words
use Rattle.protocol.proofs.Phase.words.Reads as protocol-phase-words
use Rattle.run_log.proofs.too_short.Reads as log-too-short
use Rattle.run_log.proofs.put_call.Reads as log-put-call
use Rattle.state.proofs.State.zeros.Reads as state-state-zeros
use Rattle.state.proofs.State.ticked.Reads as state-state-ticked
use Rattle.state.proofs.State.resumed.Reads as state-state-resumed
use Rattle.state.proofs.State.quiet.Reads as state-state-quiet
use Rattle.state.proofs.State.ask.Reads as state-state-ask
use Rattle.state.proofs.State.stop.Reads as state-state-stop
use Rattle.state.proofs.State.refused.Reads as state-state-refused
use Rattle.state.proofs.State.cold_start.Reads as state-state-cold-start
use Rattle.guard.proofs.guard.Reads as guard-guard
use Rattle.switch.proofs.tick.Reads as switch-tick
use Rattle.switch.proofs.status.Reads as switch-status
use Rattle.run.proofs.run.Reads as run-run
use Rattle.major_frame.proofs.MajorFrame.is_last_tick.Reads as major-frame-majorframe-is-last-tick
use Rattle.major_frame.proofs.MajorFrame.partition_at.Reads as major-frame-majorframe-partition-at
use Rattle.major_frame.proofs.MajorFrame.check.Reads as major-frame-majorframe-check
use Rattle.major_frame.proofs.MajorFrame.current_window.Reads as major-frame-majorframe-current-window
use Rattle.major_frame.proofs.window_end.Reads as major-frame-window-end
use Rattle.switcher.proofs.Switcher.check.Reads as switcher-switcher-check
use Rattle.switcher.proofs.Switcher.new.Reads as switcher-switcher-new
use Rattle.switcher.proofs.Switcher.tick.Reads as switcher-switcher-tick
use Rattle.switcher.proofs.Switcher.mark_saved.Reads as switcher-switcher-mark-saved
use Rattle.switcher.proofs.Switcher.mark_swapped.Reads as switcher-switcher-mark-swapped
use Rattle.switcher.proofs.Switcher.mark_resumed.Reads as switcher-switcher-mark-resumed
use Rattle.run_switch.proofs.run_switch.Reads as run-switch-run-switch
use Rattle.in_place.proofs.tick.Reads as in-place-tick
use Rattle.in_place.proofs.mark_saved.Reads as in-place-mark-saved
use Rattle.in_place.proofs.mark_swapped.Reads as in-place-mark-swapped
use Rattle.in_place.proofs.mark_resumed.Reads as in-place-mark-resumed
use Rattle.promise.proofs.of_any_plan.Reads as promise-of-any-plan
use Rattle.promise.proofs.of_any_state.Reads as promise-of-any-state
use Rattle.output.proofs.say_part.Reads as output-say-part
use Rattle.output.proofs.say_line.Reads as output-say-line
use Rattle.output.proofs.say.Reads as output-say
use Rattle.output.proofs.say_number.Reads as output-say-number
use Rattle.output.proofs.say_with.Reads as output-say-with
use Rattle.output.proofs.put.Reads as output-put
use Rattle.output.proofs.put_flag.Reads as output-put-flag
use Rattle.output.proofs.put_verdict.Reads as output-put-verdict
use Rattle.output.proofs.end.Reads as output-end
use Rattle.wire.proofs.verdict_words.Reads as wire-verdict-words
use Rattle.wire.proofs.answer_words.Reads as wire-answer-words
use Rattle.wire.proofs.state_words.Reads as wire-state-words
use Rattle.wire.proofs.read_state.Reads as wire-read-state
use Rattle.in_words.proofs.tick.Reads as in-words-tick
use Rattle.in_words.proofs.status.Reads as in-words-status
use Rattle.in_words.proofs.left.Reads as in-words-left
use Rattle.host.proofs.shillingnook_check.Reads as host-shillingnook-check
use Rattle.host.proofs.shillingnook_lookup.Reads as host-shillingnook-lookup
use Rattle.host.proofs.shillingnook_words.Reads as host-shillingnook-words
use Rattle.host.proofs.shillingnook_cold_start.Reads as host-shillingnook-cold-start
use Rattle.host.proofs.shillingnook_tick.Reads as host-shillingnook-tick
use Rattle.host.proofs.shillingnook_status.Reads as host-shillingnook-status
use Rattle.host.proofs.shillingnook_run.Reads as host-shillingnook-run

-- both are the same definition
both : {A : Type 0} {one other definition : A} → one ≡ definition → other ≡ definition → one ≡ other
both e e' = e ∙ sym e'

pub refusal_refusal_number_one : OneAnswer refusal-refusal-number.Post
refusal_refusal_number_one κs xs r r' ends ends' e e' = both e e'

pub refusal_refusal_place_one : OneAnswer refusal-refusal-place.Post
refusal_refusal_place_one κs xs r r' ends ends' e e' = both e e'

pub refusal_refusal_host_code_one : OneAnswer refusal-refusal-host-code.Post
refusal_refusal_host_code_one κs xs r r' ends ends' e e' = both e e'

pub refusal_or_refuse_one : OneAnswer refusal-or-refuse.Post
refusal_or_refuse_one κs xs r r' ends ends' e e' = both e e'

pub timeline_next_of_one : OneAnswer timeline-next-of.Post
timeline_next_of_one κs xs r r' ends ends' e e' = both e e'

pub records_lent_one : OneReading records-lent.Post (λ κs r ends. r.now)
records_lent_one κs xs r r' ends ends' e e' = both e.0 e'.0

pub records_nth_window_one : OneAnswer records-nth-window.Post
records_nth_window_one κs xs r r' ends ends' e e' = both e e'

pub records_window_end_one : OneAnswer records-window-end.Post
records_window_end_one κs xs r r' ends ends' e e' = both e e'

pub records_nth_row_one : OneAnswer records-nth-row.Post
records_nth_row_one κs xs r r' ends ends' e e' = both e e'

pub row_row_fault_one : OneAnswer row-row-fault.Post
row_row_fault_one κs xs r r' ends ends' e e' = both e e'

pub row_clashes_one : OneAnswer row-clashes.Post
row_clashes_one κs xs r r' ends ends' e e' = both e e'

pub rows_wrong_row_count_one : OneAnswer rows-wrong-row-count.Post
rows_wrong_row_count_one κs xs r r' ends ends' e e' = both e e'

pub rows_verdict_of_one : OneAnswer rows-verdict-of.Post
rows_verdict_of_one κs xs r r' ends ends' e e' = both e e'

pub plan_plan_new_one : OneAnswer plan-plan-new.Post
plan_plan_new_one κs xs r r' ends ends' e e' = both e e'

pub plan_plan_length_one : OneAnswer plan-plan-length.Post
plan_plan_length_one κs xs r r' ends ends' e e' = both e e'

pub plan_plan_windows_one : OneReading plan-plan-windows.Post (λ κs r ends. r.now)
plan_plan_windows_one κs xs r r' ends ends' e e' = both e e'

pub plan_plan_rows_one : OneReading plan-plan-rows.Post (λ κs r ends. r.now)
plan_plan_rows_one κs xs r r' ends ends' e e' = both e e'

pub plan_plan_check_one : OneAnswer plan-plan-check.Post
plan_plan_check_one κs xs r r' ends ends' e e' = both e e'

pub lookup_lookup_one : OneAnswer lookup-lookup.Post
lookup_lookup_one κs xs r r' ends ends' e e' = both e e'

pub own_own_rows_one : OneAnswer own-own-rows.Post
own_own_rows_one κs xs r r' ends ends' e e' = both e e'

pub region_words_of_one : OneAnswer region-words-of.Post
region_words_of_one κs xs r r' ends ends' e e' = both e e'

pub protocol_stage_call_open_one : OneAnswer protocol-stage-call-open.Post
protocol_stage_call_open_one κs xs r r' ends ends' e e' = both e e'

pub protocol_phase_stage_one : OneAnswer protocol-phase-stage.Post
protocol_phase_stage_one κs xs r r' ends ends' e e' = both e e'

pub protocol_phase_can_be_one : OneAnswer protocol-phase-can-be.Post
protocol_phase_can_be_one κs xs r r' ends ends' e e' = both e e'

pub protocol_phase_kept_word_one : OneAnswer protocol-phase-kept-word.Post
protocol_phase_kept_word_one κs xs r r' ends ends' e e' = both e.0 e'.0

pub protocol_stage_number_one : OneAnswer protocol-stage-number.Post
protocol_stage_number_one κs xs r r' ends ends' e e' = both e e'

pub protocol_call_words_one : OneAnswer protocol-call-words.Post
protocol_call_words_one κs xs r r' ends ends' e e' = both e e'

pub protocol_phase_words_one : OneAnswer protocol-phase-words.Post
protocol_phase_words_one κs xs r r' ends ends' e e' = both e e'

pub log_too_short_one : OneAnswer log-too-short.Post
log_too_short_one κs xs r r' ends ends' e e' = both e e'

pub log_put_call_one : OneAnswer log-put-call.Post
log_put_call_one κs xs r r' ends ends' e e' = both e.0 e'.0

pub state_state_zeros_one : OneAnswer state-state-zeros.Post
state_state_zeros_one κs xs r r' ends ends' e e' = both e e'

pub state_state_ticked_one : OneAnswer state-state-ticked.Post
state_state_ticked_one κs xs r r' ends ends' e e' = both e e'

pub state_state_resumed_one : OneAnswer state-state-resumed.Post
state_state_resumed_one κs xs r r' ends ends' e e' = both e e'

pub state_state_quiet_one : OneAnswer state-state-quiet.Post
state_state_quiet_one κs xs r r' ends ends' e e' = both e e'

pub state_state_ask_one : OneAnswer state-state-ask.Post
state_state_ask_one κs xs r r' ends ends' e e' = both e e'

pub state_state_stop_one : OneAnswer state-state-stop.Post
state_state_stop_one κs xs r r' ends ends' e e' = both e e'

pub state_state_refused_one : OneAnswer state-state-refused.Post
state_state_refused_one κs xs r r' ends ends' e e' = both e e'

pub state_state_cold_start_one : OneAnswer state-state-cold-start.Post
state_state_cold_start_one κs xs r r' ends ends' e e' = both e e'

pub guard_guard_one : OneAnswer guard-guard.Post
guard_guard_one κs xs r r' ends ends' e e' = both e e'

pub switch_tick_one : OneAnswer switch-tick.Post
switch_tick_one κs xs r r' ends ends' e e' = both e e'

pub switch_status_one : OneAnswer switch-status.Post
switch_status_one κs xs r r' ends ends' e e' = both e e'

pub run_run_one : OneAnswer run-run.Post
run_run_one κs xs r r' ends ends' e e' = both e.0 e'.0

pub major_frame_majorframe_is_last_tick_one : OneAnswer major-frame-majorframe-is-last-tick.Post
major_frame_majorframe_is_last_tick_one κs xs r r' ends ends' e e' = both e e'

pub major_frame_majorframe_partition_at_one : OneAnswer major-frame-majorframe-partition-at.Post
major_frame_majorframe_partition_at_one κs xs r r' ends ends' e e' = both e e'

pub major_frame_majorframe_check_one : OneAnswer major-frame-majorframe-check.Post
major_frame_majorframe_check_one κs xs r r' ends ends' e e' = both e e'

pub major_frame_majorframe_current_window_one : OneAnswer major-frame-majorframe-current-window.Post
major_frame_majorframe_current_window_one κs xs r r' ends ends' e e' = both e e'

pub major_frame_window_end_one : OneAnswer major-frame-window-end.Post
major_frame_window_end_one κs xs r r' ends ends' e e' = both e e'

pub switcher_switcher_check_one : OneAnswer switcher-switcher-check.Post
switcher_switcher_check_one κs xs r r' ends ends' e e' = both e e'

pub switcher_switcher_new_one : OneAnswer switcher-switcher-new.Post
switcher_switcher_new_one κs xs r r' ends ends' e e' = both e e'

pub switcher_switcher_tick_one : OneAnswer switcher-switcher-tick.Post
switcher_switcher_tick_one κs xs r r' ends ends' e e' = both e e'

pub switcher_switcher_mark_saved_one : OneAnswer switcher-switcher-mark-saved.Post
switcher_switcher_mark_saved_one κs xs r r' ends ends' e e' = both e e'

pub switcher_switcher_mark_swapped_one : OneAnswer switcher-switcher-mark-swapped.Post
switcher_switcher_mark_swapped_one κs xs r r' ends ends' e e' = both e e'

pub switcher_switcher_mark_resumed_one : OneAnswer switcher-switcher-mark-resumed.Post
switcher_switcher_mark_resumed_one κs xs r r' ends ends' e e' = both e e'

pub run_switch_run_switch_one : OneAnswer run-switch-run-switch.Post
run_switch_run_switch_one κs xs r r' ends ends' e e' = both e e'

-- The functions of crate `in_place`: each contract is first shown to be the fact that two equations make, of the answer and of the state at exit.
module _ (κs : Lfts 1) (lent last : MutBor Switcher) (r : Told) where
  pub in_place_tick_says : (t : ℕ) → in-place-tick.Post κs (lent, (t, tt)) r (last, (t, tt)) ≡ InPlace (tick_of lent.now t) r last.now
  in_place_tick_says t = refl

  pub in_place_mark_saved_says : in-place-mark-saved.Post κs (lent, tt) r (last, tt) ≡ InPlace (mark_saved_of lent.now) r last.now
  in_place_mark_saved_says = refl

  pub in_place_mark_swapped_says : in-place-mark-swapped.Post κs (lent, tt) r (last, tt) ≡ InPlace (mark_swapped_of lent.now) r last.now
  in_place_mark_swapped_says = refl

  pub in_place_mark_resumed_says : in-place-mark-resumed.Post κs (lent, tt) r (last, tt) ≡ InPlace (mark_resumed_of lent.now) r last.now
  in_place_mark_resumed_says = refl

-- and that fact, whatever the by-value step is, has one answer and one state at exit
abbrev in_place_of : {A : Type 0} → (A → Stepped) → (κs : Unit {0}) → A → Told → Switcher → Type 0
in_place_of step κs arguments r self = InPlace (step arguments) r self

pub in_place_one : {A : Type 0} (step : A → Stepped) → OneAnswer (in_place_of step)
in_place_one step κs xs r r' self self' e e' = both e.0 e'.0

pub in_place_state : {A : Type 0} (step : A → Stepped) → OneReading (in_place_of step) (λ κs r self. self)
in_place_state step κs xs r r' self self' e e' = both e.1 e'.1

pub in_place_tick_one : OneAnswer in-place-tick.Post
in_place_tick_one κs xs r r' ends ends' e e' = both e.0 e'.0

pub in_place_tick_state : OneReading in-place-tick.Post (λ κs r ends. ends.0.now)
in_place_tick_state κs xs r r' ends ends' e e' = both e.1 e'.1

pub in_place_mark_saved_one : OneAnswer in-place-mark-saved.Post
in_place_mark_saved_one κs xs r r' ends ends' e e' = both e.0 e'.0

pub in_place_mark_saved_state : OneReading in-place-mark-saved.Post (λ κs r ends. ends.0.now)
in_place_mark_saved_state κs xs r r' ends ends' e e' = both e.1 e'.1

pub in_place_mark_swapped_one : OneAnswer in-place-mark-swapped.Post
in_place_mark_swapped_one κs xs r r' ends ends' e e' = both e.0 e'.0

pub in_place_mark_swapped_state : OneReading in-place-mark-swapped.Post (λ κs r ends. ends.0.now)
in_place_mark_swapped_state κs xs r r' ends ends' e e' = both e.1 e'.1

pub in_place_mark_resumed_one : OneAnswer in-place-mark-resumed.Post
in_place_mark_resumed_one κs xs r r' ends ends' e e' = both e.0 e'.0

pub in_place_mark_resumed_state : OneReading in-place-mark-resumed.Post (λ κs r ends. ends.0.now)
in_place_mark_resumed_state κs xs r r' ends ends' e e' = both e.1 e'.1

pub promise_of_any_plan_one : OneAnswer promise-of-any-plan.Post
promise_of_any_plan_one κs xs r r' ends ends' e e' = refl

pub promise_of_any_state_one : OneAnswer promise-of-any-state.Post
promise_of_any_state_one κs xs r r' ends ends' e e' = refl

-- the functions that print, whatever they print to: where the words could be written there is one answer
-- a pair of results that are both `Ok`, where `Ok` holds nothing
written : {E : Type 0} (r r' : Result Unit E) → IsOk r → IsOk r' → r ≡ r'
written (Ok u) (Ok u') o o' = refl
written (Ok u) (Err e) o o' = cc
written (Err e) r' o o' = cc

module _ (printer : RattleType) (laws : Laws printer) (row : Ghosts printer.Denot) (prints : Dict) where
  pub output_say_one : OneAnswerWhere (output-say.Post printer laws row prints) (λ κs r. IsOk r)
  output_say_one κs xs r r' ends ends' e e' o o' = written r r' o o'

  pub output_say_number_one : OneAnswerWhere (output-say-number.Post printer laws row prints) (λ κs r. IsOk r)
  output_say_number_one κs xs r r' ends ends' e e' o o' = written r r' o o'

  pub output_say_with_one : OneAnswerWhere (output-say-with.Post printer laws row prints) (λ κs r. IsOk r)
  output_say_with_one κs xs r r' ends ends' e e' o o' = written r r' o o'

  pub output_put_one : OneAnswerWhere (output-put.Post printer laws row prints) (λ κs r. IsOk r)
  output_put_one κs xs r r' ends ends' e e' o o' = written r r' o o'

  pub output_put_flag_one : OneAnswerWhere (output-put-flag.Post printer laws row prints) (λ κs r. IsOk r)
  output_put_flag_one κs xs r r' ends ends' e e' o o' = written r r' o o'

  pub output_put_verdict_one : OneAnswerWhere (output-put-verdict.Post printer laws row prints) (λ κs r. IsOk r)
  output_put_verdict_one κs xs r r' ends ends' e e' o o' = written r r' o o'

  pub output_end_one : OneAnswerWhere (output-end.Post printer laws row prints) (λ κs r. IsOk r)
  output_end_one κs xs r r' ends ends' e e' o o' = written r r' o o'

-- and those that print whatever a format writes
module _ (T printer : RattleType) (of_text : Laws T) (laws : Laws printer) (shown : Shown T.Denot) (shows : Dict) (row : Ghosts printer.Denot) (prints drops : Dict) where
  pub output_say_part_one : OneAnswerWhere (output-say-part.Post T printer of_text laws shown shows row prints drops) (λ κs r. IsOk r)
  output_say_part_one κs xs r r' ends ends' e e' o o' = written r r' o o'

  pub output_say_line_one : OneAnswerWhere (output-say-line.Post T printer of_text laws shown shows row prints drops) (λ κs r. IsOk r)
  output_say_line_one κs xs r r' ends ends' e e' o o' = written r r' o o'

pub wire_verdict_words_one : OneAnswer wire-verdict-words.Post
wire_verdict_words_one κs xs r r' ends ends' e e' = both e e'

pub wire_answer_words_one : OneAnswer wire-answer-words.Post
wire_answer_words_one κs xs r r' ends ends' e e' = both e e'

pub wire_state_words_one : OneAnswer wire-state-words.Post
wire_state_words_one κs xs r r' ends ends' e e' = both e e'

pub wire_read_state_one : OneAnswer wire-read-state.Post
wire_read_state_one κs xs r r' ends ends' e e' = both e e'

pub in_words_tick_one : OneAnswer in-words-tick.Post
in_words_tick_one κs xs r r' ends ends' e e' = both e e'

pub in_words_status_one : OneAnswer in-words-status.Post
in_words_status_one κs xs r r' ends ends' e e' = both e e'

pub in_words_left_one : OneAnswer in-words-left.Post
in_words_left_one κs xs r r' ends ends' e e' = both e e'

-- the log that is lent to be written
pub log_put_call_log : OneReading log-put-call.Post (λ κs r ends. ends.0.now)
log_put_call_log κs xs r r' ends ends' e e' = both e.1 e'.1

pub run_run_log : OneReading run-run.Post (λ κs r ends. ends.1.1.1.0.now)
run_run_log κs xs r r' ends ends' e e' = both e.1 e'.1

-- the C interface answers nothing; what it writes is one: the answers,
pub host_shillingnook_check_one : OneReading host-shillingnook-check.Post (λ κs r ends. ends.1.1.1.0.now)
host_shillingnook_check_one κs xs r r' ends ends' e e' = both e e'

pub host_shillingnook_lookup_one : OneReading host-shillingnook-lookup.Post (λ κs r ends. ends.1.1.1.1.0.now)
host_shillingnook_lookup_one κs xs r r' ends ends' e e' = both e e'

pub host_shillingnook_words_one : OneReading host-shillingnook-words.Post (λ κs r ends. ends.1.1.1.1.0.now)
host_shillingnook_words_one κs xs r r' ends ends' e e' = both e e'

pub host_shillingnook_cold_start_one : OneReading host-shillingnook-cold-start.Post (λ κs r ends. ends.1.1.1.1.0.now)
host_shillingnook_cold_start_one κs xs r r' ends ends' e e' = both e.0 e'.0

pub host_shillingnook_tick_one : OneReading host-shillingnook-tick.Post (λ κs r ends. ends.1.1.1.1.1.0.now)
host_shillingnook_tick_one κs xs r r' ends ends' e e' = both e.0 e'.0

pub host_shillingnook_status_one : OneReading host-shillingnook-status.Post (λ κs r ends. ends.1.1.1.1.1.0.now)
host_shillingnook_status_one κs xs r r' ends ends' e e' = both e.0 e'.0

pub host_shillingnook_run_one : OneReading host-shillingnook-run.Post (λ κs r ends. ends.1.1.1.1.1.1.1.1.0.now)
host_shillingnook_run_one κs xs r r' ends ends' e e' = both e.0 e'.0

pub host_shillingnook_run_counts : OneReading host-shillingnook-run.Post (λ κs r ends. ends.1.1.1.1.1.1.1.0.now)
host_shillingnook_run_counts κs xs r r' ends ends' e e' = both e.1 e'.1

-- the state,
pub host_shillingnook_cold_start_state : OneReading host-shillingnook-cold-start.Post (λ κs r ends. ends.1.1.1.0.now)
host_shillingnook_cold_start_state κs xs r r' ends ends' e e' = both e.1 e'.1

pub host_shillingnook_tick_state : OneReading host-shillingnook-tick.Post (λ κs r ends. ends.1.1.1.1.0.now)
host_shillingnook_tick_state κs xs r r' ends ends' e e' = both e.1 e'.1

pub host_shillingnook_status_state : OneReading host-shillingnook-status.Post (λ κs r ends. ends.1.1.1.1.0.now)
host_shillingnook_status_state κs xs r r' ends ends' e e' = both e.1 e'.1

pub host_shillingnook_run_state : OneReading host-shillingnook-run.Post (λ κs r ends. ends.1.1.1.1.1.1.0.now)
host_shillingnook_run_state κs xs r r' ends ends' e e' = both e.2 e'.2

-- and the log
pub host_shillingnook_run_log : OneReading host-shillingnook-run.Post (λ κs r ends. ends.1.1.1.1.1.0.now)
host_shillingnook_run_log κs xs r r' ends ends' e e' = both e.3 e'.3

-- a contract that leaves something to choose does not pass
pub two_answers : OneAnswer below_two → ⊥
two_answers one = let same : ◌≡◌ {A = ℕ} 0 1 = one tt tt 0 1 tt tt (omega arith) (omega arith) in omega arith

pub two_readings : OneReading silent_at_exit (λ κs r ends. ends) → ⊥
two_readings one = let same : ◌≡◌ {A = ℕ} 0 1 = one tt tt 0 0 0 1 refl refl in omega arith
