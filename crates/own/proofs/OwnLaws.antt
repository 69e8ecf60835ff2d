-- The rows of one partition: the array in which they are handed out, where each of them stands in the table, and what an accepted plan says
-- of them. Who asks for a partition's rows needs no law about the table.
-- Assumes nothing.
use mathlib.Core.Bool.{Bool, true, false, cond}
use mathlib.Core.List.{List, [], ◌∷◌, ◌++◌, append-nil}
use mathlib.Core.Path.{◌≡◌, refl, sym, ap, ◌∙◌}
use Prim.Native.Nat.{ℕ, zero, suc, ◌+◌, ◌*◌, ◌^◌, ◌≤◌, ◌<◌}
use native.Mathlib.Numerals.{add-one}
use native.Mathlib.Decide.{dec_lt, ℕ_discrete}
use native.Mathlib.Omega.{arith}
use borrow.Author.Tests.{eq-eqb}
use lib.Dec.{eqb}
use lib.ListN.{length, get_or, set, length-append, get_or-append}
use lib.Seq.{get_or-append_seam}
use Rattle.refusal.specs.declared.Refusal.{Refusal}
use Rattle.refusal.specs.Verdict.{Verdict, accepted}
use Rattle.std.specs.Prelude.{Result, Ok, Err}
use Rattle.records.specs.declared.Row.{Row}
use Rattle.plan.specs.Plan.{Plan, row_count, row_of, own_rows}
use Rattle.records.specs.Records.{AllU32, max_partition, nth_row}
use Rattle.row.specs.Tests.{min_size, max_access}
use Rattle.row.specs.Addresses.{PowerOfTwo, MultipleOf, RowsClash}
use Rattle.rows.specs.Rows.{max_rows_each, rows_of}
use Rattle.plan.specs.Faults.{verdict_of}
use Rattle.rows.specs.Tests.{one_if_own}
use Rattle.own.specs.declared.OwnRows.{OwnRows}
use Rattle.own.specs.Own.{with_own, no_row, packed, owned, own_rows_of}
use Rattle.accepted.specs.Accepted as declared
use Rattle.own.proofs.PaddedLaws.{one_more}
use Rattle.rows.proofs.RowLaws.{count_own, count_other}

-- a row more, if it is the partition's
with_own_lem : (own : List Row) (r : Row) (q : ℕ) → length own + one_if_own r q ≤ max_rows_each
    → with_own (packed own) r q ≡ packed (own ++ cond (eqb r.partition.0 q) (r ∷ []) [])
unfolding with_own packed
with_own_lem own r q h = of (eqb r.partition.0 q) h
  where
    of : (b : Bool) → length own + cond b 1 0 ≤ max_rows_each
        → cond b (record { rows = set (packed own).rows (length own) r; count = length own + 1 }) (packed own) ≡ packed (own ++ cond b (r ∷ []) [])
    of true room = λ k. record { rows = one_more max_rows_each no_row own r (omega arith) k; count = sym (length-append own (r ∷ [])) k }
    of false room = ap packed (sym (append-nil own))

pub packed_count : (own : List Row) → (packed own).count ≡ length own
unfolding packed
packed_count own = refl

pub own_step : (rows : List ℕ) (q n : ℕ) → length (rows_of rows q n) + one_if_own (nth_row rows n) q ≤ max_rows_each
    → with_own (packed (rows_of rows q n)) (nth_row rows n) q ≡ packed (rows_of rows q (n + 1))
unfolding rows_of
own_step rows q n room = with_own_lem (rows_of rows q n) (nth_row rows n) q room ∙ ap (λ (m : ℕ). packed (rows_of rows q m)) (sym (add-one n))

-- of what is handed out there is one
pub same_own : {a b : OwnRows} → ◌≡◌ {A = Result OwnRows Refusal} (Ok a) (Ok b) → a ≡ b
same_own e = cc

-- the verdict that an answer of `own_rows` tells
abbrev pub verdict_in : Result OwnRows Refusal → Verdict
verdict_in (Ok own) = accepted
verdict_in (Err r) = Err r

-- the two answers of `own_rows`
module _ (p : Plan) (q : ℕ) where
  pub owned_refused : (r : Refusal) → verdict_of p ≡ Err r → own_rows_of p q ≡ Err r
  unfolding own_rows_of owned
  owned_refused r e = ap (λ (v : Verdict). owned v (own_rows p q)) e

  pub owned_accepted : verdict_of p ≡ accepted → own_rows_of p q ≡ Ok (packed (own_rows p q))
  unfolding own_rows_of owned
  owned_accepted e = ap (λ (v : Verdict). owned v (own_rows p q)) e

  -- which is the plan's own
  pub owned_verdict : verdict_in (own_rows_of p q) ≡ verdict_of p
  unfolding own_rows_of owned
  owned_verdict = of (verdict_of p)
    where
      of : (v : Verdict) → verdict_in (owned v (own_rows p q)) ≡ v
      of (Ok _) = refl
      of (Err r) = refl

  -- so it hands rows out only if the plan is accepted, and refuses only as the plan is refused
  pub owned_only : (own : OwnRows) → own_rows_of p q ≡ Ok own → verdict_of p ≡ accepted
  owned_only own e = sym owned_verdict ∙ ap verdict_in e

  pub owned_refusal : (r : Refusal) → own_rows_of p q ≡ Err r → verdict_of p ≡ Err r
  owned_refusal r e = sym owned_verdict ∙ ap verdict_in e

-- where the partition's k-th row stands in the table
pub record Stands (rows : List ℕ) (q n k : ℕ) : Type 0 where
  pub at : ℕ
  pub in_table : at < n
  pub is_row : get_or (rows_of rows q n) k no_row ≡ nth_row rows at
  pub is_own : (nth_row rows at).partition.0 ≡ q
  pub is_kth : length (rows_of rows q at) ≡ k

module _ (rows : List ℕ) (q : ℕ) where
  pub stands : (n k : ℕ) → k < length (rows_of rows q n) → Stands rows q n k
  unfolding rows_of
  stands zero k h = absurd (omega arith)
  stands (suc n) k h =
      elim (dec_lt k (length (rows_of rows q n))) [
        | yes earlier ↦
            let s = stands n k earlier in
            record { at = s.at; in_table = omega arith; is_row = get_or-append (rows_of rows q n) _ no_row k earlier ∙ s.is_row; is_own = s.is_own; is_kth = s.is_kth }
        | no last ↦
            elim (ℕ_discrete (nth_row rows n).partition.0 q) [
              | yes own ↦
                  let kth : length (rows_of rows q n) ≡ k = omega (arith, count_own rows q n own) in
                  record {
                    at = n;
                    in_table = omega arith;
                    is_row =
                        ap (λ (b : Bool). get_or (rows_of rows q n ++ cond b (nth_row rows n ∷ []) []) k no_row) (eq-eqb _ _ own)
                        ∙ ap (λ (j : ℕ). get_or (rows_of rows q n ++ (nth_row rows n ∷ [])) j no_row) (sym kth)
                        ∙ get_or-append_seam (rows_of rows q n) (nth_row rows n) [] no_row;
                    is_own = own;
                    is_kth = kth;
                  }
              | no other ↦ absurd (omega (arith, count_other rows q n other))
            ]
      ]

-- what is known of a partition's row
pub record Sound (q : ℕ) (r : Row) : Type 0 where
  pub is_own : r.partition.0 ≡ q
  pub partition_in_range : q ≤ max_partition
  pub size_is_power_of_two : PowerOfTwo r.size
  pub size_is_32_at_least : min_size ≤ r.size
  pub base_is_multiple_of_size : MultipleOf r.size r.base
  pub access_in_range : r.access ≤ max_access

module _ (p : Plan) (a : declared.AcceptedIf p) where
  pub sound : (q k : ℕ) → k < length (own_rows p q) → Sound q (get_or (own_rows p q) k no_row)
  sound q k h =
      let s = stands p.rows q (row_count p) k h in
      rw s.is_row (record {
        is_own = s.is_own;
        partition_in_range = rw (sym s.is_own) (a.partitions_in_range s.at s.in_table);
        size_is_power_of_two = a.sizes_are_powers_of_two s.at s.in_table;
        size_is_32_at_least = a.sizes_are_32_at_least s.at s.in_table;
        base_is_multiple_of_size = a.bases_are_multiples_of_sizes s.at s.in_table;
        access_in_range = a.accesses_in_range s.at s.in_table;
      })

  -- two rows of two partitions, or two of one, do not clash
  pub no_clash : (q j other k : ℕ) → j < length (own_rows p q) → k < length (own_rows p other) → (q ≡ other → j ≡ k → ⊥)
      → RowsClash (get_or (own_rows p q) j no_row) (get_or (own_rows p other) k no_row) → ⊥
  no_clash q j other k in-q in-other apart clash =
      let s = stands p.rows q (row_count p) j in-q in
      let t = stands p.rows other (row_count p) k in-other in
      a.no_two_rows_clash s.at t.at s.in_table t.in_table
      (λ same.
      let one-partition : q ≡ other = sym s.is_own ∙ ap (λ (i : ℕ). (row_of p i).partition.0) same ∙ t.is_own in
      apart one-partition (sym s.is_kth ∙ (λ i. length (rows_of p.rows (one-partition i) (same i))) ∙ t.is_kth))
      (rw (sym s.is_row, sym t.is_row) clash)

-- a base and a size of a lent table are u32
pub own_u32 : (p : Plan) → AllU32 p.rows → (q k : ℕ) → k < length (own_rows p q)
    → ((get_or (own_rows p q) k no_row).base < 2 ^ 32) × ((get_or (own_rows p q) k no_row).size < 2 ^ 32)
own_u32 p u32 q k h =
    let s = stands p.rows q (row_count p) k h in
    rw s.is_row (u32 (s.at * 4 + 1), u32 (s.at * 4 + 2))
