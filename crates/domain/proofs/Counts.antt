-- The largest number of variables in the rules of a block is that of its rule set, whatever the numbers of fixed values stand for; so what
-- is kept is the domain.
use mathlib.Core.{Path.◌≡◌, Path.refl, Path.sym, Path.ap, Path.ap₂, Path.◌∙◌, List.List, List.[], List.◌∷◌, List.◌++◌, List.append_assoc}
use Prim.Native.Nat.{ℕ, zero, suc, ◌≤◌, ◌<◌, max}
use native.Mathlib.Omega.{arith}
use Rattle.semantics.specs.{RuleSet.Rule, RuleSet.RuleSet, RuleSet.variables, RuleSet.WellFormed, Heap.heap_values, Domain.most_variables, Domain.ascending, Domain.good, Domain.domain}
use Rattle.words.specs.Entries.{tabulate}
use Rattle.words.proofs.Tabulate.{tabulate_more}
use Rattle.block.specs.{Layout.rule_count, Layout.rule_place, Layout.rule_as, Layout.rule_set_as, Layout.heap_in, Ready.variables_in}
use Rattle.block.proofs.RuleAs.{rules_are, rule_listed, variables_are}
use Rattle.domain.specs.Spare.{good_in, with_spares}
use Rattle.domain.specs.Kept.{FewRules, most_up_to, most_in, Kept}

-- one rule more
snoc_variables : (rule_set : RuleSet) (rules : List Rule) (rule : Rule)
    → most_variables rule_set (rules ++ (rule ∷ [])) ≡ max (most_variables rule_set rules) (variables rule_set rule)
unfolding most_variables
snoc_variables rule_set [] rule = omega arith
snoc_variables rule_set (first ∷ rules) rule = omega (arith, snoc_variables rule_set rules rule)

pub most_few : (rules : List ℕ) → FewRules rules → (k : ℕ) → k ≤ rule_count rules → most_up_to rules k ≤ 8
unfolding most_up_to
most_few rules few zero h = omega arith
most_few rules few (suc k) h = omega (arith, most_few rules few k (omega arith), few.variables_few k (omega arith))

module _ (value : ℕ → ℕ) (constants rules : List ℕ) (formed : WellFormed (rule_set_as value constants rules)) where
  listed_variables : (k : ℕ) → k < rule_count rules → variables (rule_set_as value constants rules) (rule_as value rules (rule_place k)) ≡ variables_in rules (rule_place k)
  listed_variables k h = variables_are value constants rules formed (rule_place k) (formed.each (rule_as value rules (rule_place k)) (rule_listed value constants rules k h))

  most_upto : (k : ℕ) → k ≤ rule_count rules → most_variables (rule_set_as value constants rules) (tabulate k (λ (r : ℕ). rule_as value rules (rule_place r))) ≡ most_up_to rules k
  unfolding most_variables most_up_to tabulate
  most_upto zero h = refl
  most_upto (suc k) h =
      ap (most_variables (rule_set_as value constants rules)) (tabulate_more k (λ (r : ℕ). rule_as value rules (rule_place r)))
      ∙ snoc_variables (rule_set_as value constants rules) (tabulate k (λ (r : ℕ). rule_as value rules (rule_place r))) (rule_as value rules (rule_place k))
      ∙ ap₂ max (most_upto k (omega arith)) (listed_variables k (omega arith))

  most_is : most_variables (rule_set_as value constants rules) (rule_set_as value constants rules).rules ≡ most_in rules
  unfolding rule_set_as
  most_is = most_upto (rule_count rules) (omega arith)

  pub few_rules : FewRules rules
  few_rules = record {
    rules_few = omega (arith, formed.rules_few, rules_are value constants rules);
    variables_few = λ r h. omega (arith, listed_variables r h, (formed.each (rule_as value rules (rule_place r)) (rule_listed value constants rules r h)).variables_few);
  }

  same_good : (heap values : List ℕ) → good_in heap (constants ++ values) ≡ good (rule_set_as value constants rules) (heap_in heap) values
  unfolding rule_set_as
  same_good heap values = ap (λ (l : List ℕ). 0 ∷ l) (append_assoc constants values (heap_values (heap_in heap)))

  -- what is kept of the constants and further values is the domain for these
  pub kept_domain : (heap values : List ℕ) {kept_values : List ℕ} → Kept rules heap (constants ++ values) kept_values
      → kept_values ≡ domain (rule_set_as value constants rules) (heap_in heap) values
  unfolding domain
  kept_domain heap values kept = kept.is ∙ ap₂ (λ (m : ℕ) (l : List ℕ). ascending (with_spares m l)) (sym most_is) (same_good heap values)
