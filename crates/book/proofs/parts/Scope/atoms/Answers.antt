-- After k turns k atoms are filled.
use native.Mathlib.Omega.{arith}
use Rattle.reader.proofs.{Keep.exit, Section.none, Section.more, Section.broken}
use Rattle.book.proofs.Locals.{atom_local}
use Rattle.book.proofs.parts.Scope.atoms.Goals as goal

pub loop-k-init : goal.loop-k-init
loop-k-init c = none

pub loop-k-preserved : goal.loop-k-preserved
loop-k-preserved c = more (atom_local c.args.self.now.given.now c.args.self.now.variables) (omega arith) c.loop-k.invariant c.in_ok-atom.ensures (omega arith)

pub returns-in_err-atom : goal.returns-in_err-atom
returns-in_err-atom c = exit c.from_residual.ensures.1 (broken c.args.count c.loop-k.invariant c.in_err-atom.ensures (omega arith) (omega arith))
