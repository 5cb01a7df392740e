-- The walk over the decoded blocks: what is asked of them, the choice of a rule, its calls, and what comes of a predicate.
use mathlib.Core.{List.List, Option.Option as Outcome, Option.none, Option.some, Path.◌≡◌}
use Rattle.std.specs.Prelude.{ℕ, length, take, Option, None, Some, MatchOption}
use Rattle.semantics.specs.{Heap.WellFormedHeap, RuleSet.Rule, Tree.values_of, Plain.Plain}
use Rattle.semantics.specs.WalkOutcome.{WalkOutcome, Chosen, Choosable}
use Rattle.block.specs.Layout.{rule_as, call_as, rule_set_read, fixed_in, heap_in, arity_in, call_place, call_predicate, rule_set_size}
use Rattle.block.specs.Ready.{variables_in}
use Rattle.finding.specs.Values.{Counted}
use Rattle.plain.specs.Plain.{RulesReadable, RulePlace}
use Rattle.walk.specs.declared.Choice.{Choice}

-- The blocks hold a rule set that was read, with its constants; and a heap.
pub record Readable (given rules heap : List ℕ) : Type 0 where
  pub rules_long : length rules ≡ rule_set_size
  pub rules_read : RulesReadable given rules
  pub heap_formed : WellFormedHeap (heap_in heap)

-- The first entries of an array are the arguments of a predicate, as many as it has.
abbrev pub arguments_in : List ℕ → ℕ → List ℕ → List ℕ
arguments_in rules predicate values = take (arity_in rules predicate) values

-- Those of all variables of a rule.
abbrev pub values_in : List ℕ → ℕ → List ℕ → List ℕ
values_in rules rule values = take (variables_in rules rule) values

-- ---- the choice of a rule

-- The rule at a place is chosen for the predicate: with these values of its variables, and this mask afterwards.
pub record ChosenAt (given rules : List ℕ) (rule : ℕ) (heap : List ℕ) (predicate : ℕ) (arguments : List ℕ) (mask : ℕ) (values : List ℕ) (after : ℕ) : Type 0 where
  pub place : RulePlace given rules rule
  pub all_known : Counted values 0
  pub chosen : Chosen (rule_set_read given rules) (heap_in heap) mask predicate (arguments_in rules predicate arguments) (rule_as (fixed_in given) rules rule)
      (values_in rules rule values) after

-- In a plain rule set the rule cannot be chosen.
abbrev pub NotChosen : (given rules heap : List ℕ) → ℕ → List ℕ → ℕ → Rule → Type 0
NotChosen given rules heap predicate arguments mask rule =
    Plain (rule_set_read given rules) → ¬ Choosable (rule_set_read given rules) (heap_in heap) mask predicate (arguments_in rules predicate arguments) rule

-- One rule was tried: it is chosen, or cannot be.
abbrev pub Attempts : (given rules : List ℕ) → ℕ → List ℕ → ℕ → List ℕ → ℕ → List ℕ → Option ℕ → Type 0
Attempts given rules rule heap predicate arguments mask values r =
    MatchOption r (NotChosen given rules heap predicate arguments mask (rule_as (fixed_in given) rules rule))
    (ChosenAt given rules rule heap predicate arguments mask values)

-- A rule is chosen, or none can be.
abbrev pub Chooses : (given rules heap : List ℕ) → ℕ → List ℕ → ℕ → List ℕ → Option Choice → Type 0
Chooses given rules heap predicate arguments mask values r =
    MatchOption r ((rule : Rule) → NotChosen given rules heap predicate arguments mask rule)
    (λ choice. ChosenAt given rules choice.rule heap predicate arguments mask values choice.mask)

-- ---- calls

-- The arguments of call c of a rule with these values for its variables.
pub record CallsWith (given rules : List ℕ) (rule c : ℕ) (values arguments : List ℕ) : Type 0 where
  pub all_known : Counted arguments 0
  pub are_values : arguments_in rules (call_predicate rules rule c) arguments ≡ values_of (values_in rules rule values) (call_as (fixed_in given) rules (call_place rule c)).arguments

-- ---- a predicate

-- The definition's answer.
abbrev pub answer : Option ℕ → Outcome ℕ
answer (Some mask) = some mask
answer None = none

-- What the walk of a predicate from a mask gives.
pub record WalksFrom (given rules heap : List ℕ) (fuel predicate : ℕ) (arguments : List ℕ) (mask : ℕ) (r : Option ℕ) : Type 0 where
  pub outcome : WalkOutcome (rule_set_read given rules) (heap_in heap) fuel predicate (arguments_in rules predicate arguments) mask (answer r)
