-- `along_pures` goes along the conditions one by one.
use Prim.Native.Nat.{◌≤◌}
use Rattle.finding.specs.{Values.Counted, Links.PureClosed}
use Rattle.plain.specs.Fixing.{AlongEach}
use Rattle.plain.proofs.fixing.along_pures.Given as goal

abbrev pub invariant-loop-k : goal.invariant-loop-k
invariant-loop-k l = (l.k ≤ l.count) × AlongEach l.rules l.rule l.k (PureClosed l.rules l.rule) l.initial.values l.values × Counted l.values l.left
