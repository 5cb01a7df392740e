-- `merge_pure` joins the entries of the two sides of an equality; another condition merges nothing.
use Rattle.block.proofs.KindTests.{kind_unequal}
use native.Mathlib.Omega.{arith}
use Rattle.block.proofs.Scopes.{formed_left, formed_right}
use Rattle.plain.proofs.{Merging.merged_still, Conditions.equality_merged}
use Rattle.plain.proofs.classes.merge_pure.Goals as goal

pub returns-then-eq : goal.returns-then-eq
returns-then-eq c = (merged_still (λ σ e. absurd (((kind_unequal c.kind_of.result c.kind_of.ensures).0 (rw c.eq.ensures at c.if-eq.true)) e)), c.requires.3)

pub entry-x-requires : goal.entry-x-requires
entry-x-requires c =
    (rw c.pure_left.ensures (formed_left c.requires.0 c.args.k c.requires.1), c.requires.2)

pub entry-y-requires : goal.entry-y-requires
entry-y-requires c =
    (rw c.pure_right.ensures (formed_right c.requires.0 c.args.k c.requires.1), c.requires.2)

pub returns : goal.returns
returns c =
    let g = c.args in (
      equality_merged g.given.now g.rules.now g.rule g.shared g.k c.pure_left.ensures c.pure_right.ensures g.classes.now
          c.entry-x.ensures c.entry-y.ensures c.requires.0 c.requires.1 ((kind_unequal c.kind_of.result c.kind_of.ensures).1 (rw c.eq.ensures at c.if-eq.false)) c.join.ensures.0,
      c.join.ensures.1,
    )
