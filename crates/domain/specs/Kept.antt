-- What the crate promises: the domain for given values, which are the constants and the query's.
use mathlib.Core.{List.List, Path.◌≡◌}
use Rattle.std.specs.Prelude.{ℕ, zero, suc, ◌≤◌, ◌<◌, max, length}
use Rattle.semantics.specs.{Domain.most_values, Domain.ascending}
use Rattle.block.specs.{Layout.rule_count, Layout.rule_place, Ready.variables_in}
use Rattle.domain.specs.Spare.{good_in, with_spares}

-- The rules of a block are few, and so are the variables of each.
pub record FewRules (rules : List ℕ) : Type 0 where
  pub rules_few : rule_count rules ≤ 16
  pub variables_few : (r : ℕ) → r < rule_count rules → variables_in rules (rule_place r) ≤ 8

-- The largest number of variables in any of the first k rules, and in any of all: as many spares are kept.
unfoldable pub most_up_to : List ℕ → ℕ → ℕ
most_up_to rules zero = 0
most_up_to rules (suc k) = max (most_up_to rules k) (variables_in rules (rule_place k))

abbrev pub most_in : List ℕ → ℕ
most_in rules = most_up_to rules (rule_count rules)

-- The domain is nil, the given values, those of the heap and the spares, ascending.
pub record Kept (rules heap given domain : List ℕ) : Type 0 where
  pub few : length domain ≤ most_values
  pub is : domain ≡ ascending (with_spares (most_in rules) (good_in heap given))
