-- `pure_holds` compares the positions of the two terms, by the condition's kind.
use mathlib.Core.Path.{refl}
use Rattle.block.proofs.KindTests.{kind_equal}
use Rattle.block.proofs.TermsInBlock.{pure_equal, pure_unequal}
use Rattle.certificate.specs.Line.{given_by}
use Rattle.certificate.proofs.rule.pure_holds.Goals as goal

pub returns-then-eq : goal.returns-then-eq
returns-then-eq c =
    let g = c.args in
    pure_equal (λ v. v) g.rules.now g.rule g.k (given_by g.word) refl (rw c.pure_left.ensures at c.position-left.ensures)
    (rw c.pure_right.ensures at c.position-right.ensures) ((kind_equal c.kind_of.result c.kind_of.ensures).0 (rw c.eq.ensures at c.if-eq.true))

pub returns-else-eq : goal.returns-else-eq
returns-else-eq c =
    let g = c.args in
    pure_unequal (λ v. v) g.rules.now g.rule g.k (given_by g.word) refl (rw c.pure_left.ensures at c.position-left.ensures)
    (rw c.pure_right.ensures at c.position-right.ensures) ((kind_equal c.kind_of.result c.kind_of.ensures).1 (rw c.eq.ensures at c.if-eq.false))
