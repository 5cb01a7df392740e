-- `check` tests the number of words and the last fact, and passes the lines one by one: those passed hold. What is told of the blocks is
-- told of the input that they hold.
use Prim.Native.Nat.{ℕ, ◌+◌, ◌≤◌, ◌<◌}
use Rattle.certificate.specs.Line.{LineIn}
use Rattle.certificate.proofs.check.Given as goal

abbrev pub invariant-loop-k : goal.invariant-loop-k
invariant-loop-k l =
    (1 ≤ l.k) × (l.k ≤ l.count + 1) × ((j : ℕ) → j < l.k → 1 ≤ j → LineIn l.rules l.records l.n l.words j)
