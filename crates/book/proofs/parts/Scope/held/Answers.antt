-- The byte is a constant, or names nothing.
use native.Mathlib.Omega.{arith}
use Rattle.book.proofs.Naming.{constant_held, nothing_held}
use Rattle.book.proofs.parts.Scope.held.Goals as goal
use Rattle.book.proofs.parts.Scope.held.Goals.{else-b-ge-CONSTANT-via-then-b-ge-CONSTANT+else-from-constant_count, else-b-ge-CONSTANT-via-else-b-ge-CONSTANT}

pub returns-then-from-constant_count : goal.returns-then-from-constant_count
returns-then-from-constant_count c = constant_held c.args.self.now.given.now c.args.self.now.variables c.args.b c.if-b-eq-NIL_TERM.false c.if-b-ge-CONSTANT.true (omega arith)

pub returns-else-b-ge-CONSTANT : goal.returns-else-b-ge-CONSTANT
returns-else-b-ge-CONSTANT c =
    nothing_held c.args.self.now.given.now c.args.self.now.variables c.args.b c.if-b-eq-NIL_TERM.false c.if-b-self.false
    (λ h. elim c.else-b-ge-CONSTANT.branch [ else-b-ge-CONSTANT-via-then-b-ge-CONSTANT+else-from-constant_count w ↦ omega arith | else-b-ge-CONSTANT-via-else-b-ge-CONSTANT w ↦ omega arith ])
