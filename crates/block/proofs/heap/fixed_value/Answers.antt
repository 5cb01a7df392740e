-- `fixed_value` meets its contract: nil, a constant, or past the last one.
use native.Mathlib.Omega.{arith}
use Rattle.block.proofs.GivenValues.{fixed_constant, fixed_past}
use Rattle.block.proofs.heap.fixed_value.Goals as goal

pub returns-then-k-constant_count : goal.returns-then-k-constant_count
returns-then-k-constant_count c =
    fixed_constant c.args.query.now c.args.k c.if-k-eq0.false (omega (arith, c.if-k-constant_count.true, c.constant_count.ensures))

pub returns : goal.returns
returns c =
    fixed_past c.args.query.now c.args.k (omega (arith, c.if-k-constant_count.false, c.constant_count.ensures))
