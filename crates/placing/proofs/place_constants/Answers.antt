-- `place_constants` meets its contract: after k turns the first k constants are in positions.
use Prim.Native.Nat.{◌<◌}
use mathlib.Core.Path.{ap, ◌∙◌}
use native.Mathlib.Omega.{arith}
use Rattle.semantics.specs.Fact.{position}
use Rattle.block.specs.Layout.{constant_count}
use Rattle.placing.proofs.{PlacingRules.constants_more, PlacingRules.constant_is}
use Rattle.placing.proofs.place_constants.Goals as goal

pub position-requires : goal.position-requires
position-requires c =
    let k = c.loop-k.k in
    let below : k < constant_count c.args.query.now = omega (arith, c.loop-k-test.true, c.constant_count-count.ensures) in
    rw c.fixed_value-value.ensures (c.requires.0 _ (constant_is c.args.query.now k below).1)

pub loop-k-preserved : goal.loop-k-preserved
loop-k-preserved c =
    let l = c.loop-k in
    let below : l.k < constant_count c.args.query.now = omega (arith, c.loop-k-test.true, c.constant_count-count.ensures) in (
      omega arith,
      l.invariant.1,
      rw c.write_constant.ensures (constants_more l.k (omega arith)
          (c.position.ensures ∙ ap (position c.args.domain.now) (c.fixed_value-value.ensures ∙ (constant_is c.args.query.now l.k below).0)) l.invariant.2),
    )
