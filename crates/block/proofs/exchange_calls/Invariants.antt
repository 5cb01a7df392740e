-- `exchange_calls` exchanges byte by byte. Invariant: the first j bytes of both calls have changed places.
use Prim.Native.Nat.{◌≤◌}
use Rattle.block.proofs.Exchange.{Traded}
use Rattle.block.proofs.exchange_calls.Given as goal

abbrev pub invariant-loop-j : goal.invariant-loop-j
invariant-loop-j l = (l.j ≤ 5) × Traded l.initial.rules l.rules l.second l.j
