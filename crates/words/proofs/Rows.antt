-- The rows of an accepted plan can be put into words.
-- Assumes nothing.
use Prim.Native.Nat.{ℕ, ◌<◌}
use native.Mathlib.Omega.{arith}
use lib.ListN.{length, get_or}
use Rattle.plan.specs.Plan.{Plan, own_rows}
use Rattle.records.specs.Records.{AllU32}
use Rattle.own.specs.Own.{no_row}
use Rattle.accepted.specs.Accepted as declared
use Rattle.own.proofs.OwnLaws.{sound, own_u32}
use Rattle.words.proofs.Zeros.{exponent_from, exponent_below}
use Rattle.words.proofs.Decoded.{InWords}

module _ (p : Plan) (a : declared.AcceptedIf p) (q : ℕ) where
  pub in_words : AllU32 p.rows → (k : ℕ) → k < length (own_rows p q) → InWords (get_or (own_rows p q) k no_row)
  in_words u32 k h =
      let s = sound p a q k h in
      let (base-fits, size_fits) = own_u32 p u32 q k h in
      let (n, power) = s.size_is_power_of_two in
      record {
        exponent = n;
        is_power = power;
        from_32 = exponent_from n (omega (arith, power, s.size_is_32_at_least));
        in_a_word = exponent_below n (omega (arith, power));
        base_is_multiple = s.base_is_multiple_of_size;
        base_in_a_word = base-fits;
      }
