-- `learn_fields` gives the terms their fields one by one.
use Prim.Native.Nat.{◌≤◌}
use Rattle.finding.specs.Values.{Counted}
use Rattle.finding.specs.Links.{AlongFields}
use Rattle.finding.proofs.links.learn_fields.Given as goal

abbrev pub invariant-loop-j : goal.invariant-loop-j
invariant-loop-j l =
    (l.j ≤ l.count) × AlongFields l.rules l.terms l.heap l.i l.j l.initial.values l.values × Counted l.values l.left
