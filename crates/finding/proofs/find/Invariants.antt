-- `find` goes along every link, turn by turn. A turn that learns nothing shows that no link leads further; with no variable open none could.
use Rattle.finding.specs.{Values.Counted}
use Rattle.block.specs.Layout.{fixed_in}
use Rattle.finding.proofs.Turns.{Sought}
use Rattle.finding.proofs.find.Given as goal

abbrev pub invariant-loop-unknown : goal.invariant-loop-unknown
invariant-loop-unknown l = Sought (fixed_in l.given) l.rules l.rule l.heap l.initial.values l.values × Counted l.values l.unknown

abbrev pub decreases-loop-unknown : goal.decreases-loop-unknown
decreases-loop-unknown l = l.unknown
