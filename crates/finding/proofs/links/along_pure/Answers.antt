-- `along_pure` goes along an equality from the left, or else from the right; a condition of the other kind leads nowhere.
use Rattle.block.proofs.KindTests.{kind_unequal}
use mathlib.Core.{Path.◌≡◌, Logic.◌≢◌}
use native.Mathlib.Omega.{arith}
use Rattle.semantics.specs.Tree.{value_of}
use Rattle.block.specs.Layout.{term_as, fixed_in, pure_kind, pure_left, pure_right}
use Rattle.block.proofs.Scopes.{formed_left, formed_right}
use Rattle.block.specs.Ready.{variables_in}
use Rattle.finding.proofs.{Learning.along_still, Known.valued_small}
use Rattle.finding.proofs.Equalities.{along_right, along_left}
use Rattle.finding.proofs.links.along_pure.Goals as goal

pub returns-then-eq : goal.returns-then-eq
returns-then-eq c =
    let other : pure_kind c.args.rules.now c.args.rule c.args.k ≢ 0 = (kind_unequal c.kind_of.result c.kind_of.ensures).0 (rw c.eq.ensures at c.if-eq.true) in
    (along_still (record { to_right = λ e v. absurd (other e); to_left = λ e v. absurd (other e) }), c.requires.2)

pub entry-x-requires : goal.entry-x-requires
entry-x-requires c =
    (rw c.pure_left-left.ensures (formed_left c.requires.0 c.args.k c.requires.1), c.requires.3)

pub learn-requires : goal.learn-requires
learn-requires c =
    (rw c.pure_right-right.ensures (formed_right c.requires.0 c.args.k c.requires.1), c.if-x-lt-OPEN.true, c.requires.2)

pub returns-then-x-lt-OPEN : goal.returns-then-x-lt-OPEN
returns-then-x-lt-OPEN c =
    let g = c.args in
    let is = (let left_is' : let g = c.args in c.entry-x.result ≡ value_of g.values.now (term_as (fixed_in g.given.now) (pure_left g.rules.now g.rule g.k)) = rw c.pure_left-left.ensures at c.entry-x.ensures in left_is') in (
      along_right (fixed_in g.given.now) g.rules.now g.rule g.k c.requires.0 c.requires.1 ((kind_unequal c.kind_of.result c.kind_of.ensures).1 (rw c.eq.ensures at c.if-eq.false))
          c.requires.2.eight (omega (arith, is, c.if-x-lt-OPEN.true)) (rw (is, c.pure_right-right.ensures) at c.learn.ensures.0),
      c.learn.ensures.1,
    )

pub entry-y-requires : goal.entry-y-requires
entry-y-requires c =
    (rw c.pure_right-right.ensures (formed_right c.requires.0 c.args.k c.requires.1), c.requires.3)

pub learn-requires-then-y-lt-OPEN : goal.learn-requires-then-y-lt-OPEN
learn-requires-then-y-lt-OPEN c =
    (rw c.pure_left-left.ensures (formed_left c.requires.0 c.args.k c.requires.1), c.if-y-lt-OPEN.true, c.requires.2)

pub returns-then-y-lt-OPEN : goal.returns-then-y-lt-OPEN
returns-then-y-lt-OPEN c =
    let g = c.args in
    let is = (let right_is' : let g = c.args in
    c.entry-y.result ≡ value_of g.values.now (term_as (fixed_in g.given.now) (pure_right g.rules.now g.rule g.k)) = rw c.pure_right-right.ensures at c.entry-y.ensures in right_is') in (
      along_left (fixed_in g.given.now) g.rules.now g.rule g.k c.requires.0 c.requires.1 ((kind_unequal c.kind_of.result c.kind_of.ensures).1 (rw c.eq.ensures at c.if-eq.false))
          c.requires.2.eight (omega (arith, is, c.if-y-lt-OPEN.true)) (rw (is, c.pure_left-left.ensures) at c.learn-then-y-lt-OPEN.ensures.0),
      c.learn-then-y-lt-OPEN.ensures.1,
    )

pub returns : goal.returns
returns c =
    let small = valued_small c.args.values.now (variables_in c.args.rules.now c.args.rule) (fixed_in c.args.given.now) c.requires.0.ready.variables_few in (
      along_still (record {
        to_right = λ e v. absurd (omega (arith, (let left_is' : let g = c.args in c.entry-x.result ≡ value_of g.values.now (term_as (fixed_in g.given.now) (pure_left g.rules.now g.rule g.k)) = rw c.pure_left-left.ensures at c.entry-x.ensures in left_is'), c.if-x-lt-OPEN.false, small _ (c.requires.0.ready.pure_left_lem c.args.k c.requires.1) v));
        to_left = λ e v. absurd (omega (
          arith,
          (let right_is' : let g = c.args in
              c.entry-y.result ≡ value_of g.values.now (term_as (fixed_in g.given.now) (pure_right g.rules.now g.rule g.k)) = rw c.pure_right-right.ensures at c.entry-y.ensures in right_is'),
          c.if-y-lt-OPEN.false,
          small _ (c.requires.0.ready.pure_right_lem c.args.k c.requires.1) v,
        ));
      }),
      c.requires.2,
    )
