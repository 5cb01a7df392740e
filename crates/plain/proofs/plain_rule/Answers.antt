-- `plain_rule` tests the three conditions one after the other.
use native.Mathlib.Omega.{arith}
use Rattle.words.proofs.Answers.{told_false, told_as}
use Rattle.block.specs.Layout.{rule_set_read}
use Rattle.finding.proofs.Shapes.{shaped}
use Rattle.plain.specs.Plain.{ExcludesLater}
use Rattle.plain.proofs.{Places.rules_few, Places.placed, Conclusion.plain_here, Conclusion.consumes_back, Conclusion.fixes_back}
use Rattle.plain.proofs.plain_rule.Goals.{then-not-consumes-via-then-not-consumes, then-not-consumes-via-else-not-consumes+then-not-fixes}
use Rattle.plain.proofs.plain_rule.Goals as goal

pub rule_place-rule-requires : goal.rule_place-rule-requires
rule_place-rule-requires c = omega (arith, rules_few c.requires.0, c.requires.1)

pub consumes-requires : goal.consumes-requires
consumes-requires c = shaped (placed c.requires.0 c.args.r c.rule_place-rule.result c.requires.1 c.rule_place-rule.ensures).formed

pub fixes-requires : goal.fixes-requires
fixes-requires c =
    shaped (placed c.requires.0 c.args.r c.rule_place-rule.result c.requires.1 c.rule_place-rule.ensures).formed

pub returns-then-not-consumes : goal.returns-then-not-consumes
returns-then-not-consumes c =
    let g = c.args in
    told_false (λ plain.
    elim c.then-not-consumes.branch [
      | then-not-consumes-via-then-not-consumes w ↦ c.consumes.ensures.not_so w.if-not-consumes.true
          (consumes_back c.requires.0 g.r c.rule_place-rule.result c.requires.1 c.rule_place-rule.ensures plain)
      | then-not-consumes-via-else-not-consumes+then-not-fixes w ↦ w.fixes.ensures.not_so w.if-not-fixes.true
          (fixes_back c.requires.0 g.r c.rule_place-rule.result c.requires.1 c.rule_place-rule.ensures plain)
    ])

pub returns : goal.returns
returns c =
    let g = c.args in
    told_as {P = ExcludesLater (rule_set_read g.given.now g.rules.now) g.r}
    (plain_here c.requires.0 g.r c.rule_place-rule.result c.requires.1 c.rule_place-rule.ensures (c.consumes.ensures.so c.if-not-consumes.false)
    (c.fixes.ensures.so c.if-not-fixes.false))
    (λ plain. plain.excludes) c.excludes_later.ensures
