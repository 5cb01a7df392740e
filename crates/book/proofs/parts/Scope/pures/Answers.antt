-- After k turns k conditions are filled.
use native.Mathlib.Omega.{arith}
use Rattle.reader.proofs.{Keep.exit, Section.none, Section.more, Section.broken}
use Rattle.book.proofs.Locals.{pure_local}
use Rattle.book.proofs.parts.Scope.pures.Goals as goal

pub loop-k-init : goal.loop-k-init
loop-k-init c = none

pub loop-k-preserved : goal.loop-k-preserved
loop-k-preserved c = more (pure_local c.args.self.now.given.now c.args.self.now.variables) (omega arith) c.loop-k.invariant c.in_ok-pure.ensures (omega arith)

pub returns-in_err-pure : goal.returns-in_err-pure
returns-in_err-pure c = exit c.from_residual.ensures.1 (broken c.args.count c.loop-k.invariant c.in_err-pure.ensures (omega arith) (omega arith))
