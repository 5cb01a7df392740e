-- `excludes_from` makes the classes of a rule and tests the others. Where its equalities cannot be merged, or the entries do not meet its
-- other conditions, nothing meets it.
use mathlib.Core.{List.List, Path.◌≡◌, Path.refl}
use Prim.Native.Nat.{ℕ, ◌<◌}
use native.Mathlib.Omega.{arith}
use Rattle.words.proofs.{Answers.told_true, Answers.told_false}
use Rattle.block.specs.Layout.{rule_set_read, fixed_in, constants_in, rule_count, rule_place, pure_count}
use Rattle.block.proofs.RuleAs.{rules_are}
use Rattle.plain.specs.Classes.{EqualsMet, SideMet}
use Rattle.plain.specs.Plain.{RulesReadable, ExcludesFrom}
use Rattle.plain.proofs.{Merging.fresh_follows, Merging.fresh_merged, Merging.merged_not, Overlapping.unmet_alone}
use Rattle.plain.proofs.{Passing.excludes_more, Places.place_of, Places.placed, Places.exclude_at, Exclusion.unmet_excluded}
use Rattle.plain.proofs.excluding.excludes_from.Goals.{then-not-merge-via-then-not-merge, then-not-merge-via-else-not-merge+then-not-apart}
use Rattle.plain.proofs.excluding.excludes_from.Goals as goal

-- a rule that nothing meets excludes every other
unmet : {given rules : List ℕ} → RulesReadable given rules → (r rule first : ℕ) → r < rule_count rules → rule ≡ rule_place r → ((σ : ℕ → ℕ) → ¬ SideMet (fixed_in given) rules rule 8 σ)
    → ExcludesFrom (rule_set_read given rules) r first
unmet {given} {rules} read r rule first h e never j low high =
    let below : j < rule_count rules = omega (arith, high, rules_are (fixed_in given) (constants_in given) rules) in
    rw (← exclude_at read r j rule (rule_place j) h below e refl) (unmet_excluded read (placed read r rule h e) (place_of read j below) never)

pub merge-requires : goal.merge-requires
merge-requires c =
    ((placed c.requires.0 c.args.r c.rule_place-rule.result c.requires.1 c.rule_place-rule.ensures).formed, c.requires.0.constants_few, c.fresh-classes.ensures.long)

pub apart-requires : goal.apart-requires
apart-requires c =
    ((placed c.requires.0 c.args.r c.rule_place-rule.result c.requires.1 c.rule_place-rule.ensures).formed, c.requires.0.constants_few)

pub returns-then-not-merge : goal.returns-then-not-merge
returns-then-not-merge c =
    let g = c.args in
    let rule : ℕ = c.rule_place-rule.result in
    let own = placed c.requires.0 g.r rule c.requires.1 c.rule_place-rule.ensures in
    told_true (unmet c.requires.0 g.r rule g.first c.requires.1 c.rule_place-rule.ensures
    (elim c.then-not-merge.branch [
      | then-not-merge-via-then-not-merge w ↦ λ σ met. merged_not {Met = EqualsMet (fixed_in g.given.now) g.rules.now rule 8 (pure_count g.rules.now rule)} w.if-not-merge.true c.merge.ensures.0 σ
          (fresh_follows c.fresh-classes.result c.fresh-classes.ensures σ) met.equals
      | then-not-merge-via-else-not-merge+then-not-apart w ↦ unmet_alone g.given.now g.rules.now rule own.formed _
          (fresh_merged {Met = EqualsMet (fixed_in g.given.now) g.rules.now rule 8 (pure_count g.rules.now rule)} c.fresh-classes.ensures w.if-not-merge.false c.merge.ensures.0)
          (w.apart.ensures.not_so w.if-not-apart.true)
    ]))

pub rule_place-rule-requires : goal.rule_place-rule-requires
rule_place-rule-requires c = omega (arith, c.rule_count-count.ensures)

pub loop-other-init : goal.loop-other-init
loop-other-init c =
    (omega arith, omega (arith, c.requires.2, c.rule_count-count.ensures.0), λ j l h. absurd (omega arith))

pub rule_place-requires : goal.rule_place-requires
rule_place-requires c = omega (arith, c.rule_count-count.ensures)

pub excludes-requires : goal.excludes-requires
excludes-requires c =
    let g = c.args in (
      c.requires.0,
      (placed c.requires.0 c.args.r c.rule_place-rule.result c.requires.1 c.rule_place-rule.ensures),
      placed c.requires.0 c.loop-other.other c.rule_place.result (omega (arith, c.rule_count-count.ensures.0, c.loop-other-test.true)) c.rule_place.ensures,
      fresh_merged {Met = EqualsMet (fixed_in g.given.now) g.rules.now c.rule_place-rule.result 8 (pure_count g.rules.now c.rule_place-rule.result)}
          c.fresh-classes.ensures c.if-not-merge.false c.merge.ensures.0,
      c.merge.ensures.1,
    )

pub loop-other-preserved : goal.loop-other-preserved
loop-other-preserved c =
    let g = c.args in
    let below : c.loop-other.other < rule_count g.rules.now = omega (arith, c.rule_count-count.ensures.0, c.loop-other-test.true) in (
      omega (arith, c.loop-other.invariant.0),
      omega arith,
      excludes_more (rule_set_read g.given.now g.rules.now) g.r g.first c.loop-other.other
          (rw (← exclude_at c.requires.0 g.r c.loop-other.other c.rule_place-rule.result c.rule_place.result c.requires.1 below c.rule_place-rule.ensures c.rule_place.ensures)
          (c.excludes.ensures.so c.if-not-excludes.false))
          c.loop-other.invariant.2,
    )

pub returns-then-not-excludes : goal.returns-then-not-excludes
returns-then-not-excludes c =
    let g = c.args in
    let below : c.loop-other.other < rule_count g.rules.now = omega (arith, c.rule_count-count.ensures.0, c.loop-other-test.true) in
    told_false (λ all. c.excludes.ensures.not_so c.if-not-excludes.true
    (rw (exclude_at c.requires.0 g.r c.loop-other.other c.rule_place-rule.result c.rule_place.result c.requires.1 below c.rule_place-rule.ensures c.rule_place.ensures)
    (all c.loop-other.other c.loop-other.invariant.0 (omega (arith, rules_are (fixed_in g.given.now) (constants_in g.given.now) g.rules.now)))))

pub returns : goal.returns
returns c =
    let g = c.args in
    told_true (λ j low high. c.loop-other.invariant.2 j low
    (omega (arith, high, rules_are (fixed_in g.given.now) (constants_in g.given.now) g.rules.now, c.rule_count-count.ensures.0, c.loop-other-test.false)))
