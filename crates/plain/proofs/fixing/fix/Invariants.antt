-- `fix` marks the terms one by one.
use Prim.Native.Nat.{◌≤◌}
use Rattle.finding.specs.Values.{Counted}
use Rattle.plain.specs.Fixing.{Given}
use Rattle.plain.proofs.fixing.fix.Given as goal

abbrev pub invariant-loop-j : goal.invariant-loop-j
invariant-loop-j l = (l.j ≤ l.count) × Given l.rules l.terms l.j l.initial.values l.values × Counted l.values l.left
