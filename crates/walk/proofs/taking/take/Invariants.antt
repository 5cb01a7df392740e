-- `take` passes the atoms one by one: what the atoms that are left take from the mask of the moment, all take from the first mask.
use Prim.Native.Nat.{◌≤◌}
use Rattle.semantics.proofs.WalkLoops.{AtomsLeft}
use Rattle.block.specs.Layout.{heap_in, rule_as, fixed_in}
use Rattle.walk.proofs.taking.take.Given as goal

abbrev pub invariant-loop-g : goal.invariant-loop-g
invariant-loop-g l =
    (l.g ≤ l.count) × AtomsLeft (heap_in l.heap) l.values (rule_as (fixed_in l.given) l.rules l.rule).points_to l.mask l.g l.after
