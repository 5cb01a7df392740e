-- `excludes_later` passes rules that are told apart at a glance, and leaves the rest to `excludes_from`.
use Prim.Native.Nat.{◌+◌}
use native.Mathlib.Omega.{arith}
use Rattle.words.proofs.Answers.{told_true, told_as}
use Rattle.block.specs.Layout.{rule_set_read, fixed_in, constants_in}
use Rattle.block.proofs.RuleAs.{rules_are}
use Rattle.plain.specs.Plain.{ExcludesFrom}
use Rattle.plain.proofs.{Passing.excludes_more, Passing.excludes_rest, Places.placed, Places.exclude_at, Exclusion.parted_excluded}
use Rattle.plain.proofs.excluding.excludes_later.Goals as goal

pub rule_place-rule-requires : goal.rule_place-rule-requires
rule_place-rule-requires c = omega (arith, c.rule_count-count.ensures)

pub loop-other-init : goal.loop-other-init
loop-other-init c =
    (omega arith, omega (arith, c.requires.1, c.rule_count-count.ensures.0), λ j l h. absurd (omega arith))

pub rule_place-requires : goal.rule_place-requires
rule_place-requires c = omega (arith, c.rule_count-count.ensures)

pub parted-requires : goal.parted-requires
parted-requires c =
    let own = (placed c.requires.0 c.args.r c.rule_place-rule.result c.requires.1 c.rule_place-rule.ensures).formed in
    (own.inside, (placed c.requires.0 c.loop-other.other c.rule_place.result (omega (arith, c.rule_count-count.ensures.0, c.loop-other-test.true)) c.rule_place.ensures).formed.inside, own.ready.pures_few)

pub loop-other-preserved : goal.loop-other-preserved
loop-other-preserved c =
    let g = c.args in (
      omega (arith, c.loop-other.invariant.0),
      omega arith,
      excludes_more (rule_set_read g.given.now g.rules.now) g.r (g.r + 1) c.loop-other.other
          (rw (← exclude_at c.requires.0 g.r c.loop-other.other c.rule_place-rule.result c.rule_place.result c.requires.1 (omega (arith, c.rule_count-count.ensures.0, c.loop-other-test.true)) c.rule_place-rule.ensures c.rule_place.ensures)
          (parted_excluded c.requires.0 (placed c.requires.0 c.args.r c.rule_place-rule.result c.requires.1 c.rule_place-rule.ensures) (placed c.requires.0 c.loop-other.other c.rule_place.result (omega (arith, c.rule_count-count.ensures.0, c.loop-other-test.true)) c.rule_place.ensures) c.parted.ensures c.if-not-parted.false))
          c.loop-other.invariant.2,
    )

pub excludes_from-requires : goal.excludes_from-requires
excludes_from-requires c =
    (c.requires.0, c.requires.1, omega (arith, c.loop-other.invariant.1, c.rule_count-count.ensures.0))

pub returns-then-not-parted : goal.returns-then-not-parted
returns-then-not-parted c =
    let g = c.args in
    told_as {P = ExcludesFrom (rule_set_read g.given.now g.rules.now) g.r c.loop-other.other}
    (excludes_rest (rule_set_read g.given.now g.rules.now) g.r c.loop-other.other c.loop-other.invariant.2)
    (λ all j from h. all j (omega (arith, c.loop-other.invariant.0)) h) c.excludes_from.ensures

pub returns : goal.returns
returns c =
    let g = c.args in
    told_true (λ j low high. c.loop-other.invariant.2 j (omega arith)
    (omega (arith, high, rules_are (fixed_in g.given.now) (constants_in g.given.now) g.rules.now, c.rule_count-count.ensures.0, c.loop-other-test.false)))
