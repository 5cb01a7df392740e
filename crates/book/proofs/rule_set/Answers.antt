-- The three sections make the rule set; each has its room, and the arities stay.
use native.Mathlib.Omega.{arith}
use mathlib.Core.Path.{◌∙◌}
use borrow.Author.Rules.{rules}
use Rattle.book.proofs.Whole.{exit_rules, no_rule_count, header₃, rule_set_fills}
use Rattle.book.proofs.rule_set.Goals as goal

pub returns-in_err-listed : goal.returns-in_err-listed
returns-in_err-listed c =
    let count₁ = c.in_ok-predicates.ensures in
    let arities = rw count₁.number at c.in_ok-arities.ensures in
    exit_rules c.from_residual-in_err-listed.ensures.1 (no_rule_count count₁.fills arities c.in_ok-constants.ensures c.in_err-listed.ensures.fills)
    (c.in_err-listed.ensures.fills.kept.long ∙ arities.kept.long ∙ count₁.fills.kept.long) (c.in_ok-constants.ensures.long ∙ search rules)

pub rules-requires : goal.rules-requires
rules-requires c =
    let count₁ = c.in_ok-predicates.ensures in
    let arities = rw count₁.number at c.in_ok-arities.ensures in
    let count₂ = c.in_ok-listed.ensures in (
      header₃ count₁.fills arities c.in_ok-constants.ensures count₂.fills,
      omega arith,
      omega (arith, c.requires, count₂.fills, count₂.number, arities.kept.long, count₁.fills.kept.long),
      c.in_ok-constants.ensures.constants_few,
    )

pub returns : goal.returns
returns c =
    let count₁ = c.in_ok-predicates.ensures in
    let arities = rw count₁.number at c.in_ok-arities.ensures in
    let count₂ = c.in_ok-listed.ensures in
    rule_set_fills count₁.fills arities c.in_ok-constants.ensures count₂.fills _ (search rules) (rw count₂.number at c.rules.ensures)
