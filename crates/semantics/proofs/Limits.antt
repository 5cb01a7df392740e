-- What a fact's number has room for. Soundness and completeness both rest on it.
use mathlib.Core.List.Memᴰ
use mathlib.Core.{Path.◌≡◌, Path.sym, List.List}
use Prim.Native.Nat.{ℕ, ◌≤◌}
use native.Mathlib.Omega.{arith}
use lib.ListN.{length, get_or}
use Rattle.semantics.specs.Lists.{◌among◌}
use Rattle.semantics.specs.RuleSet.{Term, var, fixed, RuleSet, fixed_values, InScope, WellFormed}
use Rattle.semantics.specs.{Heap.Heap, Heap.WellFormedHeap, Tree.value_of, Tree.values_of}
use Rattle.semantics.proofs.Coding.{get_d_in}

pub record Limits (rule_set : RuleSet) (heap : Heap) (domain : List ℕ) : Type 0 where
  pub rules_formed : WellFormed rule_set
  pub heap_formed : WellFormedHeap heap
  pub domain_few : length domain ≤ 128
  pub fixed_domain : (v : ℕ) → v among fixed_values rule_set → v among domain

-- Values of the domain for the variables give every term of the rule a value of the domain.
module _ {rule_set : RuleSet} {heap : Heap} {domain : List ℕ} (limits : Limits rule_set heap domain) (n : ℕ) (τ : List ℕ) (long : length τ ≡ n)
    (keeps : (v : ℕ) → v among τ → v among domain) where
  value-domain : (t : Term) → InScope (fixed_values rule_set) n t → value_of τ t among domain
  value-domain (var i) h = keeps (get_or τ i 0) (get_d_in τ i (omega arith))
  value-domain (fixed v) m = limits.fixed_domain v m

  pub values_domain : (ts : List Term) → ((t : Term) → t among ts → InScope (fixed_values rule_set) n t) → (v : ℕ) → v among values_of τ ts → v among domain
  values_domain ts scope v m = let (t, k, e) = Memᴰ.of_map (value_of τ) ts m in Memᴰ.cast (sym e) (value-domain t (scope t k))
