-- What the private functions answer is the words: an array of rows stands for the list, and every size in it is even.
-- Assumes nothing.
use mathlib.Core.List.{List}
use mathlib.Core.Path.{◌≡◌, ap, ◌∙◌}
use Prim.Native.Nat.{ℕ, suc, ◌-◌, ◌^◌}
use native.Mathlib.Omega.{arith}
use lib.ListN.{get_or}
use Rattle.records.specs.declared.Row.{Row}
use Rattle.plan.specs.Plan.{Plan, own_rows}
use Rattle.rows.specs.Rows.{max_rows_each}
use Rattle.own.specs.Own.{no_row, packed}
use Rattle.accepted.specs.Accepted as declared
use Rattle.own.proofs.OwnLaws.{sound}
use Rattle.own.proofs.PaddedLaws.{padded_at}
use Rattle.words.specs.Words.{row_pair, free_pair, pair_at, up_to}
use Rattle.words.proofs.SlotLaws.{packed_slot}
use Rattle.words.proofs.Zeros.{zeros_of_even, exponent_from}
use Rattle.region.specs.Parts.{EvenSizes, slot_at}

-- an array of rows gives the words of the list
pub slots_of_packed : (own : List Row) (n : ℕ) → up_to (slot_at (packed own)) n ≡ up_to (pair_at own) n
slots_of_packed own n = λ j. up_to (λ k. packed_slot (row_pair k) (free_pair k) own k j) n

module _ (p : Plan) (a : declared.AcceptedIf p) (q : ℕ) where
  -- a size is a power of two, 32 at least
  pub even_sizes : EvenSizes (packed (own_rows p q))
  unfolding packed
  even_sizes k h =
      let s = sound p a q k h in
      let (n, power) = s.size_is_power_of_two in
      let from-five = exponent_from n (omega (arith, power, s.size_is_32_at_least)) in
      let size : (get_or (packed (own_rows p q)).rows k no_row).size ≡ 2 ^ suc (n - 1) =
      ap (λ (r : Row). r.size) (padded_at max_rows_each no_row (own_rows p q) k h) ∙ power ∙ ap (λ (m : ℕ). 2 ^ m) (omega arith) in
      rw size (zeros_of_even 31 (n - 1))
