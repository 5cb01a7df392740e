-- `descend` meets its contract. Without fuel there is no tree; without a choice a plain rule set has none. Else the calls of the chosen rule are
-- unfolded one after the other: what those that are left come to from the mask of the moment, all come to from the mask after the choice. The
-- fuel is the measure.
use Prim.Native.Nat.{◌-◌, ◌≤◌}
use Rattle.semantics.proofs.{WalkLoops.CallsLeft}
use Rattle.block.specs.Layout.{rule_as, rule_set_read, fixed_in, heap_in}
use Rattle.walk.specs.Walk.{values_in}
use Rattle.walk.proofs.unfolding.+descend.Given as goal

abbrev pub invariant-loop-c : goal.invariant-loop-c
invariant-loop-c l =
    (l.c ≤ l.count) × CallsLeft (rule_set_read l.given l.rules) (heap_in l.heap) (l.fuel - 1) (values_in l.rules l.rule l.values) (rule_as (fixed_in l.given) l.rules l.rule).calls l.initial.after l.c l.after

abbrev pub decreases-descend : goal.decreases-descend
decreases-descend l = l.fuel
