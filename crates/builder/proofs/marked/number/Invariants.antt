-- `number` meets its contract. After i turns the marked places below i have their line numbers, and their third words name lines. A place
-- calls only marked places before it, whose numbers are there already.
use Rattle.builder.proofs.Numbering.{NumberedTo}
use Rattle.builder.proofs.marked.number.Given as goal

abbrev pub invariant-loop-i : goal.invariant-loop-i
invariant-loop-i l = NumberedTo l.at l.initial.space l.i l.space l.lines
