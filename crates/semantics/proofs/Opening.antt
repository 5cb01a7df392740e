-- A certificate opens. From its first line on, each line gets a finished tree by hand, whose branches are the trees of the lines that it
-- calls; the records are taken once each, since the subheaps that a line joins share none.
use mathlib.Core.List.Memᴰ
use mathlib.Core.{Path.◌≡◌, Path.refl, Path.ap, Path.◌∙◌, List.List, List.[], List.◌∷◌, List.◌++◌, List.map}
use Prim.Native.Nat.{ℕ, zero, suc, ◌≤◌, ◌<◌}
use native.Mathlib.Omega.{arith}
use lib.ListN.{length}
use Rattle.semantics.specs.{Lists.◌among◌, Lists.Distinct, RuleSet.Call, RuleSet.RuleSet, RuleSet.arity, RuleSet.variables}
use Rattle.semantics.specs.{Heap.Heap, Heap.whole_of, Heap.Joins, Formats.Valid, Tree.Forest, Tree.ByHand, Tree.Fits, Domain.domain, Fact.fact, Fact.part_of}
use Rattle.semantics.specs.{Rounds.Called, Certificate.fact_at, Certificate.LineHolds, Certificate.Certificate, Certificate.OpensAll, Certificate.Opened}
use Rattle.semantics.proofs.{Bits.whole_below, Parts.small_part, Limits.Limits, DomainFacts.good_is_domain, DomainFacts.query-good}
use Rattle.semantics.proofs.Soundness.{Stands, Trees, shown_of, ScopedCall, call_shown, trees_next, variables-counted, calls_in_scope, calls_join, node_over, head_stands}
use Rattle.semantics.proofs.Verdict.{limits, whole_fits}

module _ (rule_set : RuleSet) (heap : Heap) (domain words : List ℕ) (limits : Limits rule_set heap domain) where
  opened_small : (k p : ℕ) (vs : List ℕ) (part : ℕ) → Opened rule_set heap domain words k p vs part → part < 65536
  opened_small k p vs part h = rw h.part_taken (small_part limits.heap_formed.records_few h.tree h.once)

  -- the trees for the calls of a rule, which are the lines called, opened
  record OpenedTrees (σ lines : List ℕ) (calls : List Call) (whole : ℕ) : Type 0 where
    pub trees : Trees rule_set heap domain limits σ calls whole
    pub opens : OpensAll rule_set heap domain words lines trees.forest

  module _ (n : ℕ) (σ : List ℕ) (long : length σ ≡ n) (keeps : (v : ℕ) → v among σ → v among domain) where
    opened_all : {calls : List Call} {whole : ℕ} (lines : List ℕ) → Called domain σ calls (map (fact_at words) lines)
        → ((c : Call) → c among calls → ScopedCall rule_set heap domain limits n c)
        → ((l : ℕ) → l among lines → Stands rule_set domain (Opened rule_set heap domain words l) (fact_at words l))
        → Joins (map part_of (map (fact_at words) lines)) whole → OpenedTrees σ lines calls whole
    opened_all [] Called.none scope stands Joins.none = record { trees = record { taken = []; forest = Forest.none; once = Distinct.none; set = refl }; opens = refl }
    opened_all (l ∷ ls) (Called.next {call = call} {calls = calls} e rest) scope stands (Joins.next {rest = m} {whole = whole} a j w) =
        let b = call_shown rule_set heap domain limits n σ long keeps (Opened rule_set heap domain words l) (opened_small l) call (fact_at words l)
        (scope call (Memᴰ.head refl)) e (stands l (Memᴰ.head refl)) in
        let t = opened_all ls rest (λ c k. scope c (Memᴰ.tail k)) (λ h k. stands h (Memᴰ.tail k)) j in
        record {
          trees = trees_next rule_set heap domain limits n σ long keeps call calls (part_of (fact_at words l)) m whole
              (record { taken = b.taken; tree = b.tree; once = b.once; part_taken = b.part_taken }) a w t.trees;
          opens = (l, ls, refl, b.opens, t.opens);
        }

  -- a line that is taken opens, if the lines that it calls do
  line_opened : (k : ℕ) (lines : List ℕ) (t : LineHolds rule_set heap domain words k lines)
      → ((l : ℕ) → l among lines → Stands rule_set domain (Opened rule_set heap domain words l) (fact_at words l))
      → Stands rule_set domain (Opened rule_set heap domain words k) (fact_at words k)
  line_opened k lines t stands =
      let g = t.ground in
      let f = opened_all (variables rule_set g.rule) (g.arguments ++ g.bound) (variables-counted rule_set heap domain limits g) g.keeps lines g.calls
      (calls_in_scope rule_set heap domain limits g) stands (calls_join rule_set heap domain limits g).joins in
      let b = node_over rule_set heap domain limits g f.trees in
      head_stands rule_set heap domain limits g (Opened rule_set heap domain words k) (record {
        taken = b.taken;
        tree = b.tree;
        once = b.once;
        part_taken = b.part_taken;
        opens = (lines, t.earlier, t.written, g.is_fact ∙ ap (λ (part : ℕ). fact domain g.rule.head g.arguments part) b.part_taken, f.opens);
      })

  lines_open : (count : ℕ) (calls : ℕ → List ℕ) → ((k : ℕ) → 1 ≤ k → k ≤ count → LineHolds rule_set heap domain words k (calls k))
      → (fuel k : ℕ) → k ≤ fuel → 1 ≤ k → k ≤ count → Stands rule_set domain (Opened rule_set heap domain words k) (fact_at words k)
  lines_open count calls each zero k h low high = absurd (omega arith)
  lines_open count calls each (suc fuel) k h low high =
      let t = each k low high in
      line_opened k (calls k) t (λ l m. let (p, q) = t.earlier l m in lines_open count calls each fuel l (omega arith) p (omega arith))

-- The last line's tree is of the values and exactly the subheap that the certificate is for.
pub taken_opens : (rule_set : RuleSet) (heap : Heap) (query : List ℕ) → Valid rule_set heap query
    → (p : ℕ) (vs : List ℕ) (part : ℕ) (words : List ℕ) → length vs ≡ arity rule_set p → ((v : ℕ) → v among vs → v among domain rule_set heap query) → part < 65536
    → (t : Certificate rule_set heap (domain rule_set heap query) p vs part words) → Opened rule_set heap (domain rule_set heap query) words t.count p vs part
taken_opens rule_set heap query valid p vs part words counted keeps small t =
    let values : List ℕ = domain rule_set heap query in
    let lim = limits rule_set heap query valid in
    let s = lines_open rule_set heap values words lim t.count t.calls t.each t.count t.count (omega arith) t.some (omega arith) in
    shown_of rule_set heap values lim (Opened rule_set heap values words t.count) (opened_small rule_set heap values words lim t.count)
    (fact_at words t.count) p vs part t.last small counted keeps s

-- What was asked of a part: the part fits.
pub part_opens : (rule_set : RuleSet) (heap : Heap) (p : ℕ) (query : List ℕ) (part : ℕ) (words : List ℕ) → Valid rule_set heap query → length query ≡ arity rule_set p → part < 65536
    → (t : Certificate rule_set heap (domain rule_set heap query) p query part words)
    → Opened rule_set heap (domain rule_set heap query) words t.count p query part × ByHand rule_set heap p query part
part_opens rule_set heap p query part words valid counted small t =
    let o = taken_opens rule_set heap query valid p query part words counted (λ v k. good_is_domain rule_set heap query v (query-good rule_set heap query v k)) small t in
    (o, record { taken = o.taken; tree = o.tree; once = o.once; part_taken = o.part_taken })

-- With every record: the query fits.
pub whole_opens : (rule_set : RuleSet) (heap : Heap) (p : ℕ) (query words : List ℕ) → Valid rule_set heap query → length query ≡ arity rule_set p
    → (t : Certificate rule_set heap (domain rule_set heap query) p query (whole_of heap) words)
    → Opened rule_set heap (domain rule_set heap query) words t.count p query (whole_of heap) × Fits rule_set heap p query
whole_opens rule_set heap p query words valid counted t =
    let (o, h) = part_opens rule_set heap p query (whole_of heap) words valid counted (whole_below (length heap) 16 valid.heap_formed.records_few) t in (o, whole_fits h)
