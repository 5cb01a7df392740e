-- What the functions that a walk is made of promise. The walk carries a mask of the records taken so far. What it finds is a tree, all
-- of whose records were free; where it finds none, a plain rule set has no such tree of fewer records than the fuel.
use Rattle.std.proofs.Math.Option.{Option}
use mathlib.Core.{List.List, List.[], List.◌∷◌, List.◌++◌, Path.◌≡◌, Logic.◌≢◌}
use Rattle.std.specs.Prelude.{ℕ, ◌+◌, ◌^◌, ◌<◌, length}
use Rattle.semantics.specs.{RuleSet.PointsTo, RuleSet.Call, RuleSet.Rule, RuleSet.RuleSet, Heap.Heap, Heap.Disjoint, Plain.Plain}
use Rattle.semantics.specs.Tree.{Takes, Applies, Tree, Forest}

-- Records are taken one by one, each of them free before: the mask goes from `mask` to `after`.
pub data Marks : ℕ → List ℕ → ℕ → Type 0 where
  none : {mask : ℕ} → Marks mask [] mask
  next : {mask after i : ℕ} {indices : List ℕ} → Disjoint (2 ^ i) mask → Marks (2 ^ i + mask) indices after → Marks mask (i ∷ indices) after

-- Points-to atoms take free records.
pub record TakesFreely (heap : Heap) (σ : List ℕ) (atoms : List PointsTo) (mask after : ℕ) : Type 0 where
  pub indices : List ℕ
  pub takes : Takes heap σ atoms indices
  pub marks : Marks mask indices after

module _ (rule_set : RuleSet) (heap : Heap) where
  -- ---- a predicate with its arguments

  -- A tree that takes free records.
  pub record Unfolded (predicate : ℕ) (arguments : List ℕ) (mask after : ℕ) : Type 0 where
    pub taken : List ℕ
    pub tree : Tree rule_set heap predicate arguments taken
    pub marks : Marks mask taken after

  -- The same with fewer records than the fuel.
  pub record Fitting (fuel predicate : ℕ) (arguments : List ℕ) (mask : ℕ) : Type 0 where
    pub taken : List ℕ
    pub after : ℕ
    pub tree : Tree rule_set heap predicate arguments taken
    pub marks : Marks mask taken after
    pub short : length taken < fuel

  -- The walk of a predicate ends with the mask after a tree, or with none.
  pub data WalkOutcome (fuel predicate : ℕ) (arguments : List ℕ) (mask : ℕ) : Option ℕ → Type 0 where
    found : {after : ℕ} → Unfolded predicate arguments mask after → WalkOutcome fuel predicate arguments mask (Option.some after)
    nothing : (Plain rule_set → ¬ Fitting fuel predicate arguments mask) → WalkOutcome fuel predicate arguments mask Option.none

  -- ---- the calls of a rule, with the values σ of its variables

  pub record UnfoldedCalls (σ : List ℕ) (calls : List Call) (mask after : ℕ) : Type 0 where
    pub taken : List ℕ
    pub forest : Forest rule_set heap σ calls taken
    pub marks : Marks mask taken after

  -- Where there is a call, the records are fewer than the fuel.
  pub record FittingCalls (fuel : ℕ) (σ : List ℕ) (calls : List Call) (mask : ℕ) : Type 0 where
    pub taken : List ℕ
    pub after : ℕ
    pub forest : Forest rule_set heap σ calls taken
    pub marks : Marks mask taken after
    pub short : calls ≢ [] → length taken < fuel

  pub data CallsOutcome (fuel : ℕ) (σ : List ℕ) (calls : List Call) (mask : ℕ) : Option ℕ → Type 0 where
    found : {after : ℕ} → UnfoldedCalls σ calls mask after → CallsOutcome fuel σ calls mask (Option.some after)
    nothing : (Plain rule_set → ¬ FittingCalls fuel σ calls mask) → CallsOutcome fuel σ calls mask Option.none

  -- ---- which rule to go on with

  -- A rule with values σ for its variables: it applies, and its points-to atoms take free records.
  pub record Chosen (mask predicate : ℕ) (arguments : List ℕ) (rule : Rule) (σ : List ℕ) (after : ℕ) : Type 0 where
    pub bound : List ℕ
    pub indices : List ℕ
    pub heads : predicate ≡ rule.head
    pub applies : Applies rule_set heap rule arguments bound indices
    pub are_values : σ ≡ arguments ++ bound
    pub marks : Marks mask indices after

  -- The same with some values.
  pub record Choosable (mask predicate : ℕ) (arguments : List ℕ) (rule : Rule) : Type 0 where
    pub bound : List ℕ
    pub indices : List ℕ
    pub after : ℕ
    pub heads : predicate ≡ rule.head
    pub applies : Applies rule_set heap rule arguments bound indices
    pub marks : Marks mask indices after
