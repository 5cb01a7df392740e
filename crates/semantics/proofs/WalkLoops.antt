-- The two loops of a walk, over the points-to atoms of a rule and over its calls: what the rest of the list comes to, from the mask of the
-- moment, the whole list comes to from the mask at the start.
use mathlib.Core.{Path.◌≡◌, Path.sym, Path.subst, Logic.◌↔◌, Option.Option, Option.none, Option.some, List.List, List.[], List.◌∷◌}
use Prim.Native.Nat.{ℕ, ◌+◌, ◌^◌, ◌<◌}
use lib.{ListN.length, ListN.get_or, ListN.drop}
use Rattle.semantics.specs.{RuleSet.PointsTo, RuleSet.Call, RuleSet.RuleSet, Heap.Heap, Heap.Ordered, Heap.blank, Heap.Shares, Heap.Disjoint, Tree.values_of, Tree.asked}
use Rattle.semantics.specs.WalkOutcome.{TakesFreely, WalkOutcome, CallsOutcome}
use Rattle.semantics.proofs.{WalkChoice.free_end, WalkChoice.free_stop, WalkChoice.free_next, WalkSteps.calls_end, WalkSteps.calls_stop, WalkSteps.calls_next}

-- ---- atoms

-- Before atom g, with the mask `now`.
pub record AtomsLeft (heap : Heap) (σ : List ℕ) (atoms : List PointsTo) (mask g now : ℕ) : Type 0 where
  pub same : (after : ℕ) → TakesFreely heap σ (drop g atoms) now after ↔ TakesFreely heap σ atoms mask after

module _ {heap : Heap} {σ : List ℕ} {atoms : List PointsTo} {mask : ℕ} where
  pub atoms_start : AtomsLeft heap σ atoms mask 0 mask
  atoms_start = record { same = λ after. (λ t. t, λ t. t) }

  module _ {g now : ℕ} (left : AtomsLeft heap σ atoms mask g now) where
    -- all have taken a record
    pub atoms_end : drop g atoms ≡ [] → TakesFreely heap σ atoms mask now
    atoms_end e = (left.same now).0 (subst (λ (rest : List PointsTo). TakesFreely heap σ rest now now) (sym e) free_end)

    module _ {atom : PointsTo} (here : drop g atoms ≡ atom ∷ drop (g + 1) atoms) where
      -- atom g can take none
      pub atoms_stop : ((i : ℕ) → i < length heap → get_or heap i blank ≡ asked σ atom → Shares (2 ^ i) now) → (after : ℕ) → ¬ TakesFreely heap σ atoms mask after
      atoms_stop taken after t = free_stop taken (subst (λ (rest : List PointsTo). TakesFreely heap σ rest now after) here ((left.same after).1 t))

      -- it takes record i
      pub atoms_next : Ordered heap → (i : ℕ) → i < length heap → get_or heap i blank ≡ asked σ atom → Disjoint (2 ^ i) now → AtomsLeft heap σ atoms mask (g + 1) (2 ^ i + now)
      atoms_next ordered i below is free = record {
        same = λ after. (
          λ t. (left.same after).0 (subst (λ (rest : List PointsTo). TakesFreely heap σ rest now after) (sym here) ((free_next ordered i below is free).1 t)),
          λ t. (free_next ordered i below is free).0 (subst (λ (rest : List PointsTo). TakesFreely heap σ rest now after) here ((left.same after).1 t)),
        );
      }

-- ---- calls

-- Before call c, with the mask `now`.
pub record CallsLeft (rule_set : RuleSet) (heap : Heap) (fuel : ℕ) (σ : List ℕ) (calls : List Call) (mask c now : ℕ) : Type 0 where
  pub gives : (o : Option ℕ) → CallsOutcome rule_set heap fuel σ (drop c calls) now o → CallsOutcome rule_set heap fuel σ calls mask o

module _ {rule_set : RuleSet} {heap : Heap} {fuel : ℕ} {σ : List ℕ} {calls : List Call} {mask : ℕ} where
  pub left_start : CallsLeft rule_set heap fuel σ calls mask 0 mask
  left_start = record { gives = λ o w. w }

  module _ {c now : ℕ} (left : CallsLeft rule_set heap fuel σ calls mask c now) where
    -- all have a tree
    pub left_end : drop c calls ≡ [] → CallsOutcome rule_set heap fuel σ calls mask (some now)
    left_end e = left.gives (some now) (subst (λ (rest : List Call). CallsOutcome rule_set heap fuel σ rest now (some now)) (sym e) (calls_end rule_set heap))

    module _ {call : Call} (here : drop c calls ≡ call ∷ drop (c + 1) calls) where
      -- call c has none
      pub left_stop : WalkOutcome rule_set heap fuel call.predicate (values_of σ call.arguments) now none → CallsOutcome rule_set heap fuel σ calls mask none
      left_stop w = left.gives none (subst (λ (rest : List Call). CallsOutcome rule_set heap fuel σ rest now none) (sym here) (calls_stop rule_set heap w))

      -- it has one
      pub left_next : Ordered heap → {middle : ℕ} → WalkOutcome rule_set heap fuel call.predicate (values_of σ call.arguments) now (some middle)
          → CallsLeft rule_set heap fuel σ calls mask (c + 1) middle
      left_next ordered w = record {
        gives = λ o ws. left.gives o (subst (λ (rest : List Call). CallsOutcome rule_set heap fuel σ rest now o) (sym here) (calls_next rule_set heap ordered w ws));
      }
