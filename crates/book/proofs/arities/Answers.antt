-- After k turns k arities are filled.
use native.Mathlib.Omega.{arith}
use Rattle.reader.proofs.{Keep.exit, Section.none, Section.more, Section.broken}
use Rattle.book.proofs.Locals.{count_local}
use Rattle.book.proofs.arities.Goals as goal

pub loop-k-init : goal.loop-k-init
loop-k-init c = none

pub loop-k-preserved : goal.loop-k-preserved
loop-k-preserved c = more (count_local 0 4) (omega arith) c.loop-k.invariant c.in_ok-count.ensures.fills (omega arith)

pub returns-in_err-count : goal.returns-in_err-count
returns-in_err-count c = exit c.from_residual.ensures.1 (broken c.args.predicates c.loop-k.invariant c.in_err-count.ensures.fills (omega arith) (omega arith))
