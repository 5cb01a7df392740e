-- Unfolding trees (paper 01: unfolding by hand): finite trees of rules that show a predicate of a subheap. Bound variables take any
-- whole numbers.
use mathlib.Core.{List.List, List.[], List.◌∷◌, List.◌++◌, List.map, Path.◌≡◌, Logic.◌≢◌}
use Rattle.std.specs.Prelude.{ℕ, ◌<◌, length, get_or}
use Rattle.semantics.specs.Lists.{◌among◌, Distinct}
use Rattle.semantics.specs.RuleSet.{Term, var, fixed, Kind, equal, unequal, Pure, PointsTo, Call, Rule, RuleSet, arity}
use Rattle.semantics.specs.Heap.{Record, Heap, blank, set_of}

-- A rule's variables have the values of a list: variable i has its entry i.
abbrev pub value_of : List ℕ → Term → ℕ
value_of σ (var i) = get_or σ i 0
value_of σ (fixed v) = v

abbrev pub values_of : List ℕ → List Term → List ℕ
values_of σ terms = map (value_of σ) terms

-- A pure condition is true of the values.
abbrev pub Compare : Kind → ℕ → ℕ → Type 0
Compare equal a b = a ≡ b
Compare unequal a b = a ≢ b

abbrev pub Meets : List ℕ → Pure → Type 0
Meets σ pure = Compare pure.kind (value_of σ pure.left) (value_of σ pure.right)

-- The record that a points-to atom asks for.
abbrev pub asked : List ℕ → PointsTo → Record
asked σ atom = record { address = get_or σ atom.address 0; fields = values_of σ atom.fields }

-- The points-to atoms take the records of these numbers, in order.
pub data Takes (heap : Heap) (σ : List ℕ) : List PointsTo → List ℕ → Type 0 where
  none : Takes heap σ [] []
  atom : {atom : PointsTo} {atoms : List PointsTo} {i : ℕ} {indices : List ℕ}
      → i < length heap → get_or heap i blank ≡ asked σ atom → Takes heap σ atoms indices
      → Takes heap σ (atom ∷ atoms) (i ∷ indices)

-- A rule of the rule set with values for its variables, whose pure conditions hold and whose points-to atoms take the records `indices`.
-- Trees by hand and the engine's rounds both rest on this.
pub record Applies (rule_set : RuleSet) (heap : Heap) (rule : Rule) (arguments bound indices : List ℕ) : Type 0 where
  pub listed : rule among rule_set.rules
  pub arguments_counted : length arguments ≡ arity rule_set rule.head
  pub bound_counted : length bound ≡ rule.bound
  pub meets : (pure : Pure) → pure among rule.pures → Meets (arguments ++ bound) pure
  pub takes : Takes heap (arguments ++ bound) rule.points_to indices

-- `Tree rule set heap predicate arguments taken`: a tree with that top node; `taken` lists the records taken in all of it.
-- `Forest rule set heap σ calls taken`: a tree for each of the calls.
-- (What a constructor computes is said by an equation and not in its target, so that mutual functions can match on it.)
mutual
  pub data Tree (rule_set : RuleSet) (heap : Heap) : ℕ → List ℕ → List ℕ → Type 0 where
    node : {predicate : ℕ} {arguments taken : List ℕ} (rule : Rule) (bound indices below : List ℕ)
        → predicate ≡ rule.head
        → Applies rule_set heap rule arguments bound indices
        → Forest rule_set heap (arguments ++ bound) rule.calls below
        → taken ≡ indices ++ below
        → Tree rule_set heap predicate arguments taken

  pub data Forest (rule_set : RuleSet) (heap : Heap) : List ℕ → List Call → List ℕ → Type 0 where
    none : {σ : List ℕ} → Forest rule_set heap σ [] []
    next : {σ : List ℕ} {call : Call} {calls : List Call} {taken : List ℕ} (here rest : List ℕ)
        → Tree rule_set heap call.predicate (values_of σ call.arguments) here
        → Forest rule_set heap σ calls rest
        → taken ≡ here ++ rest
        → Forest rule_set heap σ (call ∷ calls) taken

-- A finished unfolding by hand that takes exactly the records of the subheap `part`.
pub record ByHand (rule_set : RuleSet) (heap : Heap) (predicate : ℕ) (arguments : List ℕ) (part : ℕ) : Type 0 where
  pub taken : List ℕ
  pub tree : Tree rule_set heap predicate arguments taken
  pub once : Distinct taken
  pub part_taken : part ≡ set_of taken

-- Every record of the heap is taken.
abbrev pub UsesAll : Heap → List ℕ → Type 0
UsesAll heap taken = (i : ℕ) → i < length heap → i among taken

-- The query's answer by hand: a finished tree that takes all records, none of them twice.
pub record Fits (rule_set : RuleSet) (heap : Heap) (predicate : ℕ) (arguments : List ℕ) : Type 0 where
  pub taken : List ℕ
  pub tree : Tree rule_set heap predicate arguments taken
  pub once : Distinct taken
  pub all : UsesAll heap taken
