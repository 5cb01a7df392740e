-- `along_pures` goes along the conditions one by one.
use Prim.Native.Nat.{◌≤◌}
use Rattle.block.specs.Layout.{fixed_in}
use Rattle.block.specs.Ready.{variables_in}
use Rattle.finding.specs.Values.{Counted}
use Rattle.finding.specs.Links.{PureMet, PureClosed, AlongEach}
use Rattle.finding.proofs.links.along_pures.Given as goal

abbrev pub invariant-loop-k : goal.invariant-loop-k
invariant-loop-k l =
    (l.k ≤ l.count) × AlongEach l.k (variables_in l.rules l.rule) (PureMet (fixed_in l.given) l.rules l.rule) (PureClosed l.rules l.rule) l.initial.values l.values × Counted l.values l.left
