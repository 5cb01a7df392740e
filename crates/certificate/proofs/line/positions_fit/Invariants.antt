-- `positions_fit` passes the positions of a word one by one. The invariant: the whole word fits exactly if what is left of it does.
use mathlib.Core.Logic.{◌↔◌}
use Prim.Native.Nat.{◌-◌}
use Rattle.certificate.specs.Line.{Positions}
use Rattle.certificate.proofs.line.positions_fit.Given as goal

abbrev pub invariant-loop : goal.invariant-loop
invariant-loop l = Positions l.n l.variables l.word ↔ Positions l.n (l.variables - l.counter) l.rest
