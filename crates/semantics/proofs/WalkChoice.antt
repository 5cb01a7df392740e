-- The choice of a rule: its points-to atoms take free records, and the reasons why it cannot be chosen. In a plain rule set it can be chosen
-- with the values found for its variables only.
use mathlib.Core.{Path.◌≡◌, Path.refl, Path.sym, Path.ap, Path.◌∙◌, Path.subst, Logic.◌↔◌, Logic.◌≢◌}
use mathlib.Core.{Option.none, Option.some, List.List, List.[], List.◌∷◌, List.◌++◌}
use Prim.Native.Nat.{ℕ, ◌+◌, ◌^◌, ◌<◌}
use lib.{ListN.length, ListN.get_or}
use Rattle.semantics.specs.RuleSet.{Pure, PointsTo, Rule, RuleSet, arity}
use Rattle.semantics.specs.{Lists.◌among◌, Heap.Record, Heap.Heap, Heap.Ordered, Heap.blank, Heap.Shares, Heap.Disjoint, Tree.Meets, Tree.asked, Tree.Takes, Plain.Plain}
use Rattle.semantics.specs.{Found.Known, Found.Agrees, Found.AllFound, WalkOutcome.Marks, WalkOutcome.TakesFreely, WalkOutcome.Chosen, WalkOutcome.Choosable}
use Rattle.semantics.proofs.{Addresses.address_once, FoundFacts.none_open, FoundFacts.found_values}

-- ---- one points-to atom before others

-- the record that it takes, and what is left for the others
record First (heap : Heap) (σ : List ℕ) (atom : PointsTo) (atoms : List PointsTo) (mask after : ℕ) : Type 0 where
  pub index : ℕ
  pub below : index < length heap
  pub is : get_or heap index blank ≡ asked σ atom
  pub free : Disjoint (2 ^ index) mask
  pub others : TakesFreely heap σ atoms (2 ^ index + mask) after

-- without atoms the mask stays
pub free_end : {heap : Heap} {σ : List ℕ} {mask : ℕ} → TakesFreely heap σ [] mask mask
free_end = record { indices = []; takes = Takes.none; marks = Marks.none }

module _ {heap : Heap} {σ : List ℕ} {atom : PointsTo} {atoms : List PointsTo} {mask after : ℕ} where
  first_of : {indices : List ℕ} → Takes heap σ (atom ∷ atoms) indices → Marks mask indices after → First heap σ atom atoms mask after
  first_of (Takes.atom {i = i} {indices = is} h e rest) (Marks.next f m) =
      record { index = i; below = h; is = e; free = f; others = record { indices = is; takes = rest; marks = m } }

  -- no record as it asks for is free
  pub free_stop : ((i : ℕ) → i < length heap → get_or heap i blank ≡ asked σ atom → Shares (2 ^ i) mask) → ¬ TakesFreely heap σ (atom ∷ atoms) mask after
  free_stop taken t = let f = first_of t.takes t.marks in f.free (taken f.index f.below f.is)

  -- One is, and there is no other at its address.
  pub free_next : Ordered heap → (i : ℕ) → i < length heap → get_or heap i blank ≡ asked σ atom → Disjoint (2 ^ i) mask
      → TakesFreely heap σ (atom ∷ atoms) mask after ↔ TakesFreely heap σ atoms (2 ^ i + mask) after
  free_next ordered i below is free = (
    λ t. let f = first_of t.takes t.marks in
        let same : f.index ≡ i = address_once ordered f.index i f.below below (ap (λ (r : Record). r.address) (f.is ∙ sym is)) in
        subst (λ (k : ℕ). TakesFreely heap σ atoms (2 ^ k + mask) after) same f.others,
    λ t. record { indices = i ∷ t.indices; takes = Takes.atom below is t.takes; marks = Marks.next free t.marks },
  )

-- ---- the rule

module _ {rule_set : RuleSet} {heap : Heap} {mask p : ℕ} {arguments : List ℕ} {rule : Rule} where
  -- it is chosen
  pub chosen_by : {after : ℕ} (bound : List ℕ) → rule among rule_set.rules → p ≡ rule.head
      → length arguments ≡ arity rule_set rule.head → length bound ≡ rule.bound → ((pure : Pure) → pure among rule.pures → Meets (arguments ++ bound) pure)
      → TakesFreely heap (arguments ++ bound) rule.points_to mask after → Chosen rule_set heap mask p arguments rule (arguments ++ bound) after
  chosen_by bound m e counted bound_counted meets t = record {
    bound = bound;
    indices = t.indices;
    heads = e;
    applies = record { listed = m; arguments_counted = counted; bound_counted = bound_counted; meets = meets; takes = t.takes };
    are_values = refl;
    marks = t.marks;
  }

  -- it is of another predicate
  pub other_head : p ≢ rule.head → ¬ Choosable rule_set heap mask p arguments rule
  other_head n c = n c.heads

  module _ (plain : Plain rule_set) where
    module _ {env : Known} (found : AllFound rule_set heap rule arguments env) where
      -- a variable has no value
      pub left_open : (v : ℕ) → v < length env → get_or env v (some 0) ≡ none → ¬ Choosable rule_set heap mask p arguments rule
      left_open v h e c = none_open found c.applies (plain.all_fixed rule c.applies.listed) v h e

      -- with the values found, a pure condition is not met, or the points-to atoms take no free records
      module _ (σ : List ℕ) (long : length σ ≡ length env) (agrees : Agrees env σ) where
        values_of : (c : Choosable rule_set heap mask p arguments rule) → arguments ++ c.bound ≡ σ
        values_of c = sym (found_values found c.applies (plain.all_fixed rule c.applies.listed) σ long agrees)

        pub not_met : ¬ ((pure : Pure) → pure among rule.pures → Meets σ pure) → ¬ Choosable rule_set heap mask p arguments rule
        not_met n c = n (λ pure m. subst (λ (τ : List ℕ). Meets τ pure) (values_of c) (c.applies.meets pure m))

        pub not_free : ((after : ℕ) → ¬ TakesFreely heap σ rule.points_to mask after) → ¬ Choosable rule_set heap mask p arguments rule
        not_free n c =
            n c.after (record { indices = c.indices; takes = subst (λ (τ : List ℕ). Takes heap τ rule.points_to c.indices) (values_of c) c.applies.takes; marks = c.marks })
