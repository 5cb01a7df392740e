-- The rounds as a computation, for rule sets and heaps of a few values: every rule, all values of the domain for its variables, every
-- choice of facts. It serves the starred rows, and is no part of what must be believed.
use mathlib.Core.{Bool.Bool, Bool.true, Bool.false, List.List, List.[], List.◌∷◌, List.◌++◌, List.map, List.flat_map}
use Prim.Native.Nat.{ℕ, zero, suc, ◌+◌, ◌^◌}
use lib.{Dec.eqb, Bits.bit_and}
use Rattle.semantics.specs.Lists.{member}
use Rattle.semantics.specs.RuleSet.{Kind, equal, unequal, Pure, PointsTo, Call, Rule, RuleSet, arity}
use Rattle.semantics.specs.{Heap.Record, Heap.Heap, Tree.value_of, Tree.values_of, Tree.asked, Domain.ascending, Fact.fact, Fact.part_of}

-- one way on if the test passes, and none otherwise
unfoldable pub when : {A : Type 0} → Bool → A → List A
when true a = a ∷ []
when false a = []

unfoldable pub both : Bool → Bool → Bool
both true b = b
both false b = false

unfoldable pub every : {A : Type 0} → (A → Bool) → List A → Bool
every f [] = true
every f (x ∷ xs) = both (f x) (every f xs)

unfoldable pub same_list : List ℕ → List ℕ → Bool
same_list [] [] = true
same_list [] (y ∷ ys) = false
same_list (x ∷ xs) [] = false
same_list (x ∷ xs) (y ∷ ys) = both (eqb x y) (same_list xs ys)

unfoldable pub same_record : Record → Record → Bool
same_record r s = both (eqb r.address s.address) (same_list r.fields s.fields)

-- all lists of n values of the domain
unfoldable pub assignments : ℕ → List ℕ → List (List ℕ)
assignments zero values = [] ∷ []
assignments (suc n) values = let rest = assignments n values in flat_map (λ (v : ℕ). map (λ (vs : List ℕ). v ∷ vs) rest) values

unfoldable pub compares : Kind → ℕ → ℕ → Bool
compares equal a b = eqb a b
compares unequal a b = elim (eqb a b) [ true ↦ false | false ↦ true ]

unfoldable pub meets_all : List ℕ → List Pure → Bool
meets_all σ [] = true
meets_all σ (p ∷ ps) = both (compares p.kind (value_of σ p.left) (value_of σ p.right)) (meets_all σ ps)

-- the numbers of the records that are equal to r, counted from k
unfoldable pub finds : ℕ → Heap → Record → List ℕ
finds k [] r = []
finds k (p ∷ heap) r = when (same_record p r) k ++ finds (suc k) heap r

-- the records that points-to atoms take, in each way
unfoldable pub takings : Heap → List ℕ → List PointsTo → List (List ℕ)
takings heap σ [] = [] ∷ []
takings heap σ (c ∷ atoms) = flat_map (λ (i : ℕ). map (λ (is : List ℕ). i ∷ is) (takings heap σ atoms)) (finds 0 heap (asked σ c))

-- the facts of the table that a call can use
unfoldable pub answers : List ℕ → List ℕ → Call → List ℕ → List ℕ
answers values σ call table = flat_map (λ (f : ℕ). when (eqb f (fact values call.predicate (values_of σ call.arguments) (part_of f))) f) table

unfoldable pub callings : List ℕ → List ℕ → List ℕ → List Call → List (List ℕ)
callings values σ table [] = [] ∷ []
callings values σ table (c ∷ calls) = flat_map (λ (f : ℕ). map (λ (fs : List ℕ). f ∷ fs) (callings values σ table calls)) (answers values σ c table)

-- the disjoint join, if there is one
unfoldable pub joined : List ℕ → List ℕ
joined [] = 0 ∷ []
joined (p ∷ ps) = flat_map (λ (rest : ℕ). when (eqb (bit_and p rest) 0) (p + rest)) (joined ps)

-- the facts that are not in the table
unfoldable pub drop_known : List ℕ → List ℕ → List ℕ
drop_known table [] = []
drop_known table (f ∷ fs) = elim (member f table) [ true ↦ drop_known table fs | false ↦ f ∷ drop_known table fs ]

-- The table when nothing was new, or when the fuel ran out.
pub record Run : Type 0 where
  pub finished : Bool
  pub rounds : ℕ
  pub table : List ℕ

-- one step: a fact, and the facts that it follows from
pub record Step : Type 0 where
  pub conclusion : ℕ
  pub called : List ℕ

module _ (rule_set : RuleSet) (heap : Heap) (values : List ℕ) where
  -- the steps by one rule: first the arguments, then the bound values, the test, the records, the facts called
  unfoldable pub by_facts : Rule → List ℕ → List ℕ → List ℕ → List Step
  by_facts rule arguments is fs =
      map (λ (part : ℕ). record { conclusion = fact values rule.head arguments part; called = fs }) (joined (map (λ (i : ℕ). 2 ^ i) is ++ map part_of fs))

  unfoldable pub by_records : List ℕ → Rule → List ℕ → List ℕ → List ℕ → List Step
  by_records table rule arguments bound is =
      flat_map (by_facts rule arguments is) (callings values (arguments ++ bound) table rule.calls)

  unfoldable pub by_test : List ℕ → Rule → List ℕ → List ℕ → Bool → List Step
  by_test table rule arguments bound passed =
      flat_map (by_records table rule arguments bound) (takings heap (arguments ++ bound) rule.points_to)

  unfoldable pub by_values : List ℕ → Rule → List ℕ → List ℕ → List Step
  by_values table rule arguments bound =
      flat_map (by_test table rule arguments bound) (when (meets_all (arguments ++ bound) rule.pures) true)

  unfoldable pub by_arguments : List ℕ → Rule → List ℕ → List Step
  by_arguments table rule arguments = flat_map (by_values table rule arguments) (assignments rule.bound values)

  unfoldable pub by_rule : List ℕ → Rule → List Step
  by_rule table rule = flat_map (by_arguments table rule) (assignments (arity rule_set rule.head) values)

  -- all steps from a table
  unfoldable pub steps : List ℕ → List Step
  steps table = flat_map (by_rule table) rule_set.rules

  -- what follows in one step, with repeats
  unfoldable pub following : List ℕ → List ℕ
  following table = map (λ (s : Step). s.conclusion) (steps table)

  -- the next round
  unfoldable pub new_facts : List ℕ → List ℕ
  new_facts table = ascending (drop_known table (following table))

  -- the rounds until nothing is new
  unfoldable pub run : ℕ → ℕ → List ℕ → Run
  run zero r table = record { finished = false; rounds = r; table = table }
  run (suc fuel) r table =
      let new = new_facts table in
      elim new [ [] ↦ record { finished = true; rounds = r; table = table } | f ∷ fs ↦ run fuel (suc r) (table ++ (f ∷ fs)) ]
