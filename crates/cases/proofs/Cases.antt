-- Each case by computation.
-- Assumes nothing.
use mathlib.Core.List.{List}
use mathlib.Core.Path.{refl, ap}
use native.Mathlib.Omega.{arith}
use lib.Count.{ones, count_trailing_zeros}
use lib.ListN.{get_or}
use Rattle.refusal.specs.First.{refuse_if, or_else}
use Rattle.verdict.specs.First.{refused, first_fault, upward, test_at, first_of}
use Rattle.timeline.specs.Windows.{holdsb, window_at, next_of}
use Rattle.timeline.specs.Lookup.{lookup_verdict}
use Rattle.row.specs.Tests.{shares_address, clashes}
use Rattle.rows.specs.Rows.{rows_of}
use Rattle.rows.specs.Tests.{wrong_row_count, clash_test, clashes_before}
use Rattle.major_frame.specs.Frame.{window_fault, window_test, length_test, frame_verdict, current_window}
use Rattle.switcher.specs.Switch.{made, new_of}
use Rattle.plan.specs.Faults.{wrong_counts, wrong, past_counts, order, verdict_of}
use Rattle.lookup.specs.Lookup.{lookup_of}
use Rattle.machine.specs.Guard.{placed_at, fits_at, state_verdict, guard_of}
use Rattle.state.specs.Start.{if_accepted, cold_move, cold_of}
use Rattle.machine.specs.Step.{tick_taken, tick_at, tick_in, tick_move, zero_at, reply_at, status_in, status_move}
use Rattle.machine.specs.Machine.{tick_of, status_verdict, status_of}
use Rattle.run_log.specs.Log.{too_short, logged, calls_logged}
use Rattle.machine.specs.Run.{tick_turn, status_turn, turn, go_on, run_verdict, run_of, log_of}
use Rattle.words.specs.declared.Pair.{Pair}
use Rattle.words.specs.Slots.{write, Slot, at_slot}
use Rattle.words.specs.Manual.{decode}
use Rattle.words.specs.Words.{no_pair, row_pair, free_pair, up_to, words_verdict, answer, words_of}
use Rattle.cases.specs.Cases.{four, frame_a, three_rows, Table, last_byte, LastByteWritten}

pub table : Table
unfolding refuse_if or_else refused first_fault upward test_at first_of holdsb window_at lookup_verdict rows_of wrong_row_count shares_address clashes clash_test clashes_before wrong_counts wrong past_counts order verdict_of lookup_of window_fault window_test length_test frame_verdict current_window made new_of four frame_a three_rows ones count_trailing_zeros row_pair free_pair at_slot up_to words_verdict answer words_of next_of placed_at fits_at state_verdict guard_of if_accepted cold_move cold_of tick_taken tick_at tick_in tick_move zero_at reply_at status_in status_move tick_of status_verdict status_of too_short logged calls_logged tick_turn status_turn turn go_on run_verdict run_of log_of
table =
    record {
      a_is_accepted = refl;
      tick_9 = (refl, refl);
      tick_10 = (refl, refl);
      tick_49 = (refl, refl);
      tick_50 = (refl, refl);
      port_tick_9 = (refl, refl);
      port_tick_10 = (refl, refl);
      port_tick_49 = (refl, refl);
      port_tick_50 = (refl, refl);
      port_new_refused = (refl, refl);
      sum_past_32_bits = refl;
      longest_frame = refl;
      row_at_the_top = refl;
      row_in_a_writable_row = refl;
      three_rows_lem = refl;
      three_rows_words = refl;
      five_zeros = record { accepted = refl; in_phase_lem = refl; in_window = (refl, refl); next_tick_lem = refl; used = refl };
      five_zeros_log = refl;
      stopped_on_7 = record { accepted = refl; in_phase_lem = refl; in_window = (refl, refl); next_tick_lem = refl; used = refl };
      stopped_on_7_log = refl;
    }

pub last_byte_written : LastByteWritten
unfolding decode
last_byte_written =
    let slot = ap (λ (slots : List Pair). decode (get_or slots 0 no_pair)) table.three_rows_words in
    record {
      slot = 0;
      in_range = omega arith;
      covered = ap (λ (s : Slot). s.covers last_byte) slot;
      permitted = ap (λ (s : Slot). s.permits write) slot;
    }
