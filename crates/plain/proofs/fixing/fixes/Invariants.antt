-- `fixes` goes along every link, turn by turn. What is marked is fixed; a turn that marks nothing shows that the rest is not.
use Rattle.finding.specs.{Values.Counted, Links.Keeps}
use Rattle.plain.specs.Fixing.{Sound}
use Rattle.plain.proofs.fixing.fixes.Given as goal

abbrev pub invariant-loop-unknown : goal.invariant-loop-unknown
invariant-loop-unknown l = Sound l.rules l.rule l.values × Keeps l.initial.values l.values × Counted l.values l.unknown

abbrev pub decreases-loop-unknown : goal.decreases-loop-unknown
decreases-loop-unknown l = l.unknown
