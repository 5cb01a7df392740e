-- The rules that are tested: what is asked of their blocks, and what is tested of one of them.
use mathlib.Core.{List.List, Path.◌≡◌, Logic.◌≢◌}
use Rattle.std.specs.Prelude.{ℕ, ◌≤◌, ◌<◌, length}
use Rattle.semantics.specs.Lists.{◌among◌}
use Rattle.semantics.specs.RuleSet.{RuleSet, rule_of, WellFormed, WellFormedRule}
use Rattle.semantics.specs.Plain.{Consumes, AllFixed, Exclude}
use Rattle.block.specs.Layout.{rule_as, rule_set_read, constant_count, fixed_in, constants_in, rule_count, rule_place, atom_count, call_count}
use Rattle.block.specs.Ready.{FormedRead}
use Rattle.finding.specs.Values.{open_entry}

-- Every constant is below the bound of values.
abbrev pub ConstantsFit : List ℕ → Type 0
ConstantsFit given = (v : ℕ) → v among constants_in given → v < open_entry

-- The blocks hold a rule set that was read, with its constants.
pub record RulesReadable (given rules : List ℕ) : Type 0 where
  pub formed : WellFormed (rule_set_read given rules)
  pub constants_few : constant_count given ≤ 8
  pub constants_fit : ConstantsFit given

-- The place of a rule of the block.
pub record RulePlace (given rules : List ℕ) (rule : ℕ) : Type 0 where
  pub number : ℕ
  pub below : number < rule_count rules
  pub is_place : rule ≡ rule_place number
  pub well : WellFormedRule (rule_set_read given rules) (rule_as (fixed_in given) rules rule)
  pub formed : FormedRead given rules rule

-- The rule at a place has a points-to atom where it has calls.
abbrev pub ConsumesIn : List ℕ → ℕ → Type 0
ConsumesIn rules at = call_count rules at ≢ 0 → atom_count rules at ≢ 0

-- A rule and each from a number on exclude each other.
abbrev pub ExcludesFrom : RuleSet → ℕ → ℕ → Type 0
ExcludesFrom rule_set i n = (j : ℕ) → n ≤ j → j < length rule_set.rules → Exclude rule_set (rule_of rule_set i) (rule_of rule_set j)

-- A rule and each later one exclude each other.
abbrev pub ExcludesLater : RuleSet → ℕ → Type 0
ExcludesLater rule_set i = (j : ℕ) → i < j → j < length rule_set.rules → Exclude rule_set (rule_of rule_set i) (rule_of rule_set j)

-- The three conditions, as far as rule i and later ones go.
pub record PlainRule (rule_set : RuleSet) (i : ℕ) : Type 0 where
  pub consumes : Consumes (rule_of rule_set i)
  pub all_fixed : AllFixed rule_set (rule_of rule_set i)
  pub excludes : ExcludesLater rule_set i
