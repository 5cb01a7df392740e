-- `gather` meets its contract. After i turns the lines of the first i places stand where their numbers say. A number is never beyond its
-- place, so a line that is written never hits a place that is still to be read.
use Rattle.builder.proofs.Gathering.{GatheredTo}
use Rattle.builder.proofs.marked.gather.Given as goal

abbrev pub invariant-loop-i : goal.invariant-loop-i
invariant-loop-i l = GatheredTo l.table l.at l.initial.space l.i l.space
