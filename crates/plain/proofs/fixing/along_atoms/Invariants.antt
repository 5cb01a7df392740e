-- `along_atoms` passes each points-to atom from its address to its fields.
use Prim.Native.Nat.{◌≤◌}
use Rattle.finding.specs.Values.{Counted}
use Rattle.plain.specs.Fixing.{AlongEach, AtomClosed}
use Rattle.plain.proofs.fixing.along_atoms.Given as goal

abbrev pub invariant-loop-g : goal.invariant-loop-g
invariant-loop-g l = (l.g ≤ l.count) × AlongEach l.rules l.rule l.g (AtomClosed l.rules l.rule) l.initial.values l.values × Counted l.values l.left
