-- At most 3,072 are counted for each bit passed.
use Rattle.std.proofs.Common.{◌*◌, ◌≤◌}
use Rattle.cases.proofs.damage.flipped.Given as goal

abbrev pub invariant-loop-bit : goal.invariant-loop-bit
invariant-loop-bit l = l.count ≤ 3072 * l.bit
