-- `excludes_later` passes rules that are told apart at a glance, and leaves the rest to `excludes_from`.
use Prim.Native.Nat.{◌+◌, ◌≤◌, ◌<◌}
use Rattle.block.specs.Layout.{rule_set_read}
use Rattle.plain.proofs.{Passing.ExcludesWithin}
use Rattle.plain.proofs.excluding.excludes_later.Given as goal

abbrev pub invariant-loop-other : goal.invariant-loop-other
invariant-loop-other l = (l.r < l.other) × (l.other ≤ l.count) × ExcludesWithin (rule_set_read l.given l.rules) l.r (l.r + 1) l.other
