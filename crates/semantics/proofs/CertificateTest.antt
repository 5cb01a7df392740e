-- The conditions for lines as a test that computes: it takes the words apart, and tests each part.
use mathlib.Core.{Bool.Bool, Bool.true, Bool.false, List.List, List.[], List.◌∷◌, List.◌++◌, List.map, List.flat_map}
use Prim.Native.Nat.{ℕ, zero, suc, ◌+◌, ◌*◌, ◌/◌, ◌%◌, ◌^◌}
use lib.{ListN.length, ListN.get_or, ListN.take, ListN.drop, Dec.eqb, Dec.leb, Dec.ltb}
use Rattle.semantics.specs.Lists.{digits_of, member, digits}
use Rattle.semantics.specs.{RuleSet.Call, RuleSet.Rule, RuleSet.RuleSet, RuleSet.arity, RuleSet.variables, RuleSet.blank_rule, Heap.Heap, Tree.values_of}
use Rattle.semantics.specs.{Fact.fact, Fact.part_of, Certificate.fact_at, Certificate.positions_at, Certificate.rule_at}
use Rattle.semantics.proofs.Evaluator.{every, both, meets_all, takings, joined}

module _ (rule_set : RuleSet) (heap : Heap) (domain words : List ℕ) where
  -- what line k names
  abbrev pub rule_of : ℕ → Rule
  rule_of k = get_or rule_set.rules (rule_at words k % 256) blank_rule

  abbrev pub positions_of : ℕ → List ℕ
  positions_of k = digits_of 256 (variables rule_set (rule_of k)) (positions_at words k)

  abbrev pub values_at : ℕ → List ℕ
  values_at k = map (λ (i : ℕ). get_or domain i 0) (positions_of k)

  abbrev pub calls_of : ℕ → List ℕ
  calls_of k = digits_of 65536 (length (rule_of k).calls) (rule_at words k / 256)

  unfoldable pub calls_test : List ℕ → List Call → List ℕ → Bool
  calls_test σ [] [] = true
  calls_test σ [] (f ∷ fs) = false
  calls_test σ (c ∷ cs) [] = false
  calls_test σ (c ∷ cs) (f ∷ fs) = both (eqb f (fact domain c.predicate (values_of σ c.arguments) (part_of f))) (calls_test σ cs fs)

  -- the facts that the rule gives with these values and called facts
  unfoldable pub conclusions : Rule → List ℕ → List ℕ → List ℕ → List ℕ
  conclusions rule arguments bound called =
      flat_map (λ (is : List ℕ). map (fact domain rule.head arguments) (joined (map (λ (i : ℕ). 2 ^ i) is ++ map part_of called))) (takings heap (arguments ++ bound) rule.points_to)

  unfoldable pub earlier_test : ℕ → ℕ → Bool
  earlier_test k l = both (leb 1 l) (ltb l k)

  unfoldable pub position_test : ℕ → Bool
  position_test p = ltb p (length domain)

  unfoldable pub line_test : ℕ → ℕ → Rule → List ℕ → List ℕ → List ℕ → List ℕ → Bool
  line_test k number rule positions arguments bound lines =
      both (ltb number (length rule_set.rules))
      (both (eqb (positions_at words k) (digits 256 positions))
      (both (every position_test positions)
      (both (eqb (rule_at words k) (number + 256 * digits 65536 lines))
      (both (every (earlier_test k) lines)
      (both (meets_all (arguments ++ bound) rule.pures)
      (both (calls_test (arguments ++ bound) rule.calls (map (fact_at words) lines))
      (member (fact_at words k) (conclusions rule arguments bound (map (fact_at words) lines)))))))))

  unfoldable pub takes_line : ℕ → Bool
  takes_line k =
      line_test k (rule_at words k % 256) (rule_of k) (positions_of k) (take (arity rule_set (rule_of k).head) (values_at k)) (drop (arity rule_set (rule_of k).head) (values_at k)) (calls_of k)

  -- lines 1 to n
  unfoldable pub takes_lines : ℕ → Bool
  takes_lines zero = true
  takes_lines (suc n) = both (takes_line (suc n)) (takes_lines n)

  unfoldable pub takes : ℕ → List ℕ → ℕ → Bool
  takes predicate values part =
      let count = length words / 3 in
      both (leb 1 count) (both (leb count 65535) (both (eqb (length words) (3 * count))
      (both (takes_lines count) (eqb (fact_at words count) (fact domain predicate values part)))))
