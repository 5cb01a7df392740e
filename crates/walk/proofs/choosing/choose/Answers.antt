-- `choose` tries the rules one after the other: those passed cannot be chosen in a plain rule set.
use borrow.Author.{Count.below_none, Count.below_more}
use native.Mathlib.Omega.{arith}
use Rattle.block.specs.Layout.{fixed_in, constants_in}
use Rattle.block.proofs.RuleAs.{rule-number}
use Rattle.plain.proofs.Places.{place_of}
use Rattle.walk.proofs.choosing.choose.Goals as goal

pub loop-r-init : goal.loop-r-init
loop-r-init c = (omega arith, below_none _)

pub attempt-requires : goal.attempt-requires
attempt-requires c =
    let g = c.args in
    (c.requires.0, rw c.rule_place-rule.ensures (place_of c.requires.0.rules_read c.loop-r.r (omega (arith, c.rule_count-count.ensures.0))), c.requires.2)

pub loop-r-preserved : goal.loop-r-preserved
loop-r-preserved c =
    (omega arith, below_more _ _ c.loop-r.invariant.1 (rw c.rule_place-rule.ensures at c.in_default.ensures))

pub returns : goal.returns
returns c =
    let g = c.args in
    λ rule plain can.
    let (k, h, e) = rule-number (fixed_in g.given.now) (constants_in g.given.now) g.rules.now rule can.applies.listed in
    c.loop-r.invariant.1 k (omega (arith, c.rule_count-count.ensures.0)) plain (rw e at can)
