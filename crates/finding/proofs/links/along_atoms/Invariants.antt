-- `along_atoms` goes along the points-to atoms one by one.
use Prim.Native.Nat.{ℕ, ◌≤◌}
use Rattle.finding.specs.Values.{Counted}
use Rattle.finding.specs.Links.{AlongAtomsAs}
use Rattle.finding.proofs.links.along_atoms.Given as goal

abbrev pub invariant-loop-g : goal.invariant-loop-g
invariant-loop-g l =
    (l.g ≤ l.count) × ((value : ℕ → ℕ) → AlongAtomsAs l.g value l.rules l.rule l.heap l.initial.values l.values) × Counted l.values l.left
