-- `arguments_of` writes the values one after the other over zeros.
use Prim.Native.Nat.{◌≤◌}
use lib.ListN.{length, get_or}
use Rattle.walk.proofs.Arguments.{Written}
use Rattle.walk.proofs.arguments_of.Given as goal

abbrev pub invariant-loop-i : goal.invariant-loop-i
invariant-loop-i l = (l.i ≤ length l.given) × Written l.i (λ j. get_or l.given j 0) l.arguments
