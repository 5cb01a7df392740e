-- At most one is counted for each word passed.
use Rattle.std.proofs.Common.{◌≤◌}
use Rattle.cases.proofs.damage.masked.Given as goal

abbrev pub invariant-loop-at : goal.invariant-loop-at
invariant-loop-at l = l.count ≤ l.at
