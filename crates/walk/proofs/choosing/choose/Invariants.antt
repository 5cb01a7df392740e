-- `choose` tries the rules one after the other: those passed cannot be chosen in a plain rule set.
use Prim.Native.Nat.{ℕ, ◌≤◌, ◌<◌}
use Rattle.block.specs.Layout.{rule_as, fixed_in, rule_place}
use Rattle.walk.specs.Walk.{NotChosen}
use Rattle.walk.proofs.choosing.choose.Given as goal

abbrev pub invariant-loop-r : goal.invariant-loop-r
invariant-loop-r l =
    (l.r ≤ l.count) × ((k : ℕ) → k < l.r → NotChosen l.given l.rules l.heap l.predicate l.arguments l.mask (rule_as (fixed_in l.given) l.rules (rule_place k)))
