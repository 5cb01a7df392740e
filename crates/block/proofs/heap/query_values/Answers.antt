-- `query_values` meets its contract: the part of the block after the constants has the values one by one.
use mathlib.Core.{Path.◌≡◌, Path.ap, Path.◌∙◌}
use Prim.Native.Nat.{ℕ, ◌+◌, ◌-◌}
use native.Mathlib.Omega.{arith}
use lib.{ListN.take, ListN.drop}
use Rattle.block.specs.Layout.{constant_count, query_count, query_place}
use Rattle.block.proofs.GivenValues.{part_entries}
use Rattle.block.proofs.heap.query_values.Goals as goal

pub returns : goal.returns
returns c =
    let q = c.args.query.now in
    let n : 3 + constant_count q + query_count q - (3 + constant_count q) ≡ query_count q = omega arith in
    ap (λ (k : ℕ). take k (drop (query_place q) q)) n ∙ part_entries q (query_place q) (query_count q) (omega arith)
