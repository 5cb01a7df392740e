-- `argument` reads argument j of a call, which has as many as its predicate's arity.
use Prim.Native.Nat.{◌+◌}
use native.Mathlib.Omega.{arith}
use Rattle.block.specs.Layout.{call_place, call_arity}
use Rattle.block.proofs.TermsInBlock.{argument_at, argument_past}
use Rattle.certificate.specs.Line.{given_by}
use Rattle.certificate.proofs.join.argument.Goals as goal

pub returns-then-j-call_arity : goal.returns-then-j-call_arity
returns-then-j-call_arity c =
    let g = c.args in
    rw (c.position.ensures, c.call_term.ensures)
    (argument_at (λ v. v) g.rules.now (given_by g.word) (call_place g.rule g.c + 1) (call_arity g.rules.now g.rule g.c) g.j (omega arith))

pub returns-else-j-call_arity : goal.returns-else-j-call_arity
returns-else-j-call_arity c =
    let g = c.args in
    argument_past (λ v. v) g.rules.now (given_by g.word) (call_place g.rule g.c + 1) (call_arity g.rules.now g.rule g.c) g.j (omega arith)
