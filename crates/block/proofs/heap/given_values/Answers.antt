-- `given_values` meets its contract: the part of the block after nil has the constants and the values one by one.
use mathlib.Core.{Path.◌≡◌, Path.ap, Path.◌∙◌}
use Prim.Native.Nat.{ℕ, ◌+◌, ◌-◌}
use native.Mathlib.Omega.{arith}
use lib.{ListN.take, ListN.drop}
use Rattle.block.specs.Layout.{query_count, constant_count}
use Rattle.block.proofs.GivenValues.{part_entries, given-row}
use Rattle.block.proofs.heap.given_values.Goals as goal

pub returns : goal.returns
returns c =
    let q = c.args.query.now in
    let n : 3 + (constant_count q + query_count q) - 3 ≡ constant_count q + query_count q = omega arith in
    ap (λ (k : ℕ). take k (drop 3 q)) n ∙ part_entries q 3 (constant_count q + query_count q) (omega arith) ∙ given-row q
