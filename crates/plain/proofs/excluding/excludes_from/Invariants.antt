-- `excludes_from` makes the classes of a rule and passes the others one by one. Where its equalities cannot be merged, or the entries do not
-- meet its other conditions, nothing meets it.
use Prim.Native.Nat.{◌≤◌}
use Rattle.block.specs.Layout.{rule_set_read}
use Rattle.plain.proofs.{Passing.ExcludesWithin}
use Rattle.plain.proofs.excluding.excludes_from.Given as goal

abbrev pub invariant-loop-other : goal.invariant-loop-other
invariant-loop-other l = (l.first ≤ l.other) × (l.other ≤ l.count) × ExcludesWithin (rule_set_read l.given l.rules) l.r l.first l.other
