-- Plain rule sets (paper 02, orders 2 and 4; source 000, section 5): three conditions, each under its own name.
use mathlib.Core.{List.List, List.[], List.◌++◌, Path.◌≡◌, Logic.◌≢◌}
use Rattle.std.specs.Prelude.{ℕ, ◌<◌, length}
use Rattle.semantics.specs.{Lists.◌among◌, Tree.Meets}
use Rattle.semantics.specs.RuleSet.{Term, var, fixed, equal, Pure, PointsTo, Rule, RuleSet, arity, variables, rule_of}

-- ---- rules that call take a record

-- Where the rule has calls, it has a points-to atom.
abbrev pub Consumes : Rule → Type 0
Consumes rule = rule.calls ≢ [] → rule.points_to ≢ []

abbrev pub Consuming : RuleSet → Type 0
Consuming rule_set = (rule : Rule) → rule among rule_set.rules → Consumes rule

-- ---- variables are fixed

-- An equality of two terms, as a pure condition.
abbrev pub equals : Term → Term → Pure
equals left right = record { kind = equal; left = left; right = right }

-- Which terms of a rule are fixed: a fixed value (nil or a constant), the head's variables, and what is reached from these, along an
-- equality either way round or from the address of a points-to atom to a field. How the rule is written decides this: a contradiction by
-- itself fixes nothing.
pub data Fixed (rule_set : RuleSet) (rule : Rule) : Term → Type 0 where
  fixed_value : {x : ℕ} → Fixed rule_set rule (fixed x)
  of_head : {v : ℕ} → v < arity rule_set rule.head → Fixed rule_set rule (var v)
  to_right : {left right : Term} → equals left right among rule.pures → Fixed rule_set rule left → Fixed rule_set rule right
  to_left : {left right : Term} → equals left right among rule.pures → Fixed rule_set rule right → Fixed rule_set rule left
  of_field : {atom : PointsTo} {term : Term} → atom among rule.points_to → term among atom.fields → Fixed rule_set rule (var atom.address)
      → Fixed rule_set rule term

-- Every variable of the rule is fixed, used or not.
abbrev pub AllFixed : RuleSet → Rule → Type 0
AllFixed rule_set rule = (v : ℕ) → v < variables rule_set rule → Fixed rule_set rule (var v)

abbrev pub VariablesFixed : RuleSet → Type 0
VariablesFixed rule_set = (rule : Rule) → rule among rule_set.rules → AllFixed rule_set rule

-- ---- rules exclude each other

-- The rule's pure conditions can be met with these arguments: some whole numbers for the bound variables do it.
pub record Allows (rule : Rule) (arguments : List ℕ) : Type 0 where
  pub bound : List ℕ
  pub bound_counted : length bound ≡ rule.bound
  pub meets : (pure : Pure) → pure among rule.pures → Meets (arguments ++ bound) pure

-- If the rules have one predicate, no arguments are allowed by both.
abbrev pub Exclude : RuleSet → Rule → Rule → Type 0
Exclude rule_set rule other = rule.head ≡ other.head → (arguments : List ℕ) → length arguments ≡ arity rule_set rule.head
    → Allows rule arguments → ¬ Allows other arguments

-- Two rules are two numbers, so a rule that is written twice must exclude itself.
abbrev pub Exclusive : RuleSet → Type 0
Exclusive rule_set = (i j : ℕ) → i < j → j < length rule_set.rules → Exclude rule_set (rule_of rule_set i) (rule_of rule_set j)

-- ---- all three

pub record Plain (rule_set : RuleSet) : Type 0 where
  pub consuming : Consuming rule_set
  pub all_fixed : VariablesFixed rule_set
  pub exclusive : Exclusive rule_set
