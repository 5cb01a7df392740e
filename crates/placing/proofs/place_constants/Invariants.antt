-- `place_constants` meets its contract: after k turns the first k constants are in positions.
use Prim.Native.Nat.{◌≤◌}
use Rattle.placing.specs.Placed.{ConstantsPlaced}
use Rattle.placing.proofs.place_constants.Given as goal

abbrev pub invariant-loop-k : goal.invariant-loop-k
invariant-loop-k l = (l.k ≤ l.count) × (l.count ≤ 8) × ConstantsPlaced l.domain l.query l.initial.rules l.rules l.k
