-- A tree by some of the rules is a tree by all of them.
use mathlib.Core.{Path.◌≡◌, Path.ap, Path.◌∙◌, List.List}
use Prim.Native.Nat.{ℕ}
use lib.ListN.{get_or}
use Rattle.semantics.specs.{Lists.◌among◌, Heap.Heap, RuleSet.Call, RuleSet.Rule, RuleSet.RuleSet}
use Rattle.semantics.specs.Tree.{Applies, Tree, Forest, ByHand, Fits}

module _ (rule_set more : RuleSet) (heap : Heap) (same : rule_set.arities ≡ more.arities) (kept : (rule : Rule) → rule among rule_set.rules → rule among more.rules) where
  pub applies_more : {rule : Rule} {arguments bound indices : List ℕ} → Applies rule_set heap rule arguments bound indices → Applies more heap rule arguments bound indices
  applies_more {rule} a = record {
    listed = kept rule a.listed;
    arguments_counted = a.arguments_counted ∙ ap (λ (counts : List ℕ). get_or counts rule.head 0) same;
    bound_counted = a.bound_counted;
    meets = a.meets;
    takes = a.takes;
  }

  mutual
    tree_more : {p : ℕ} {vs taken : List ℕ} → Tree rule_set heap p vs taken → Tree more heap p vs taken
    tree_more (Tree.node rule bound is below e a forest t) = Tree.node rule bound is below e (applies_more a) (forest_more forest) t

    forest_more : {σ : List ℕ} {calls : List Call} {taken : List ℕ} → Forest rule_set heap σ calls taken → Forest more heap σ calls taken
    forest_more Forest.none = Forest.none
    forest_more (Forest.next here rest tree forest t) = Forest.next here rest (tree_more tree) (forest_more forest) t

  pub fits_more : {p : ℕ} {vs : List ℕ} → Fits rule_set heap p vs → Fits more heap p vs
  fits_more f = record { taken = f.taken; tree = tree_more f.tree; once = f.once; all = f.all }

  pub part_more : {p : ℕ} {vs : List ℕ} {part : ℕ} → ByHand rule_set heap p vs part → ByHand more heap p vs part
  part_more f = record { taken = f.taken; tree = tree_more f.tree; once = f.once; part_taken = f.part_taken }
