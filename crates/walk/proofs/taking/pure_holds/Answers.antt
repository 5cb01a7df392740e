-- `pure_holds` compares the values of the two terms, by the condition's kind.
use mathlib.Core.Path.{refl}
use Rattle.block.proofs.KindTests.{kind_equal}
use native.Mathlib.Omega.{arith}
use Rattle.block.specs.Layout.{fixed_in}
use Rattle.block.proofs.Scopes.{formed_left, formed_right}
use Rattle.block.proofs.TermsInBlock.{pure_equal, pure_unequal}
use Rattle.walk.proofs.taking.pure_holds.Goals as goal

pub entry-left-requires : goal.entry-left-requires
entry-left-requires c = (rw c.pure_left.ensures (formed_left c.requires.0 c.args.k c.requires.1), c.requires.2)

pub entry-right-requires : goal.entry-right-requires
entry-right-requires c =
    (rw c.pure_right.ensures (formed_right c.requires.0 c.args.k c.requires.1), c.requires.2)

pub returns-then-eq : goal.returns-then-eq
returns-then-eq c =
    let g = c.args in
    pure_equal (fixed_in g.given.now) g.rules.now g.rule g.k g.values.now refl (rw c.pure_left.ensures at c.entry-left.ensures)
    (rw c.pure_right.ensures at c.entry-right.ensures) (omega (arith, ((kind_equal c.kind_of.result c.kind_of.ensures).0 (rw c.eq.ensures at c.if-eq.true))))

pub returns-else-eq : goal.returns-else-eq
returns-else-eq c =
    let g = c.args in
    pure_unequal (fixed_in g.given.now) g.rules.now g.rule g.k g.values.now refl (rw c.pure_left.ensures at c.entry-left.ensures)
    (rw c.pure_right.ensures at c.entry-right.ensures) (λ e. omega (arith, ((kind_equal c.kind_of.result c.kind_of.ensures).1 (rw c.eq.ensures at c.if-eq.false)), e))
