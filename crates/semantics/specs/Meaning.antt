-- Meaning (source 000, definitions 2.3 and 2.4): a rule holds for a subheap that its points-to atoms and calls divide among them and
-- share nowhere, and a predicate by the least fixed point of its rules. Variables take any whole numbers. Only subheaps of the one heap
-- are spoken of: what a rule joins lies within the subheap that it holds for.
use mathlib.Core.{List.List, List.[], List.◌∷◌, List.◌++◌, List.map, Path.◌≡◌}
use Rattle.std.specs.Prelude.{ℕ, ◌^◌}
use Rattle.semantics.specs.{RuleSet.Call, RuleSet.Rule, RuleSet.RuleSet, Heap.Heap, Heap.Joins, Tree.values_of, Tree.Applies}

mutual
  pub data Means (rule_set : RuleSet) (heap : Heap) : ℕ → List ℕ → ℕ → Type 0 where
    by_rule : {predicate : ℕ} {arguments : List ℕ} {part : ℕ} (rule : Rule) (bound indices parts : List ℕ)
        → predicate ≡ rule.head
        → Applies rule_set heap rule arguments bound indices
        → MeansCalls rule_set heap (arguments ++ bound) rule.calls parts
        → Joins (map (λ (i : ℕ). 2 ^ i) indices ++ parts) part
        → Means rule_set heap predicate arguments part

  -- A subheap for each call.
  pub data MeansCalls (rule_set : RuleSet) (heap : Heap) : List ℕ → List Call → List ℕ → Type 0 where
    none : {σ : List ℕ} → MeansCalls rule_set heap σ [] []
    next : {σ : List ℕ} {call : Call} {calls : List Call} {part : ℕ} {parts : List ℕ}
        → Means rule_set heap call.predicate (values_of σ call.arguments) part
        → MeansCalls rule_set heap σ calls parts
        → MeansCalls rule_set heap σ (call ∷ calls) (part ∷ parts)
