-- Rule sets (paper 01: the book; source 000, definitions 2.1 and 2.2): what a rule may say, and when a rule set is well formed.
use mathlib.Core.{List.List, List.[], List.◌∷◌, Path.◌≡◌}
use Rattle.std.specs.Prelude.{ℕ, ◌+◌, ◌≤◌, ◌<◌, length, get_or}
use Rattle.semantics.specs.Lists.{◌among◌}

-- A term of a rule: one of its variables, by number, or a fixed value. Nil is `fixed 0`, and a constant is `fixed` with its value.
pub data Term : Type 0 where
  var : ℕ → Term
  fixed : ℕ → Term

pub data Kind : Type 0 where
  equal : Kind
  unequal : Kind

-- A pure condition: the two terms' values are equal, or are not.
pub record Pure : Type 0 where
  pub kind : Kind
  pub left : Term
  pub right : Term

-- A points-to atom (paper 01: a cell): exactly one record. `address` is a variable's number.
pub record PointsTo : Type 0 where
  pub address : ℕ
  pub fields : List Term

-- A call of a predicate, with a term for each of its arguments.
pub record Call : Type 0 where
  pub predicate : ℕ
  pub arguments : List Term

-- A rule for the predicate `head`. Its variables are counted through: those of the head, and after them `bound` more.
pub record Rule : Type 0 where
  pub head : ℕ
  pub bound : ℕ
  pub pures : List Pure
  pub points_to : List PointsTo
  pub calls : List Call

-- A rule set: each predicate's number of arguments, the constants, and the rules.
pub record RuleSet : Type 0 where
  pub arities : List ℕ
  pub constants : List ℕ
  pub rules : List Rule

abbrev pub arity : RuleSet → ℕ → ℕ
arity rule_set predicate = get_or rule_set.arities predicate 0

abbrev pub variables : RuleSet → Rule → ℕ
variables rule_set rule = arity rule_set rule.head + rule.bound

-- What stands for a rule past the end of the rule set.
abbrev pub blank_rule : Rule
blank_rule = record { head = 0; bound = 0; pures = []; points_to = []; calls = [] }

abbrev pub rule_of : RuleSet → ℕ → Rule
rule_of rule_set number = get_or rule_set.rules number blank_rule

-- The values that a fixed term may have: nil, and the constants, used or not. Some may be equal: only the values matter.
abbrev pub fixed_values : RuleSet → List ℕ
fixed_values rule_set = 0 ∷ rule_set.constants

-- A term of a rule with n variables: a variable below n, or one of the fixed values.
abbrev pub InScope : List ℕ → ℕ → Term → Type 0
InScope values n (var i) = i < n
InScope values n (fixed v) = v among values

-- What the reader of rule sets guarantees of a rule: its names exist, and every count is in its range.
pub record WellFormedRule (rule_set : RuleSet) (rule : Rule) : Type 0 where
  pub head_named : rule.head < length rule_set.arities
  pub variables_few : variables rule_set rule ≤ 8
  pub pures_few : length rule.pures ≤ 8
  pub pures_left : (pure : Pure) → pure among rule.pures → InScope (fixed_values rule_set) (variables rule_set rule) pure.left
  pub pures_right : (pure : Pure) → pure among rule.pures → InScope (fixed_values rule_set) (variables rule_set rule) pure.right
  pub atoms_few : length rule.points_to ≤ 4
  pub atoms_address : (atom : PointsTo) → atom among rule.points_to → atom.address < variables rule_set rule
  pub fields_few : (atom : PointsTo) → atom among rule.points_to → length atom.fields ≤ 4
  pub atoms_fields : (atom : PointsTo) → atom among rule.points_to → (term : Term) → term among atom.fields
      → InScope (fixed_values rule_set) (variables rule_set rule) term
  pub calls_few : length rule.calls ≤ 3
  pub calls_named : (call : Call) → call among rule.calls → call.predicate < length rule_set.arities
  pub calls_counted : (call : Call) → call among rule.calls → length call.arguments ≡ arity rule_set call.predicate
  pub calls_scoped : (call : Call) → call among rule.calls → (term : Term) → term among call.arguments
      → InScope (fixed_values rule_set) (variables rule_set rule) term

-- And of the whole rule set.
pub record WellFormed (rule_set : RuleSet) : Type 0 where
  pub predicates_some : 1 ≤ length rule_set.arities
  pub predicates_few : length rule_set.arities ≤ 8
  pub arguments_few : (predicate : ℕ) → arity rule_set predicate ≤ 4
  pub constants_few : length rule_set.constants ≤ 8
  pub rules_few : length rule_set.rules ≤ 16
  pub each : (rule : Rule) → rule among rule_set.rules → WellFormedRule rule_set rule
