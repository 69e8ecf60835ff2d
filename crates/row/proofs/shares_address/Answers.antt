-- Past both sizes together the rows lie apart; below, the difference has not wrapped.
use Rattle.std.proofs.Common.{ℕ, ◌+◌, ◌-◌, ◌%◌, ◌^◌, ◌<◌, sym, arith, rules}
use Rattle.row.proofs.ClashLaws.{lie_apart, unless_touching}
use Rattle.row.proofs.shares_address.Goals as goal

pub returns-then-a_size-b_size : goal.returns-then-a_size-b_size
returns-then-a_size-b_size c =
    let a = c.args.a in
    let b = c.args.b in
    let d : ℕ = (a.base + a.size + (2 ^ 64 - b.base)) % 2 ^ 64 in
    let base : b.base < 2 ^ 32 = search rules in
    let end : a.base + a.size < 2 ^ 33 = search rules in
    sym (lie_apart a b d base (omega arith) (omega arith) c.if-a_size-b_size.true)

pub returns : goal.returns
returns c =
    let a = c.args.a in
    let b = c.args.b in
    let d : ℕ = (a.base + a.size + (2 ^ 64 - b.base)) % 2 ^ 64 in
    let base : b.base < 2 ^ 32 = search rules in
    let sizes : a.size + b.size < 2 ^ 33 = search rules in
    unless_touching a b d (omega arith) c.if-a_size-b_size.false
