-- Soundness and completeness over the domain of a query, and the verdict: the complete table has the query's fact exactly if it fits by
-- hand.
use mathlib.Core.{Path.◌≡◌, Path.sym, Path.ap, Path.◌∙◌, Logic.◌↔◌, List.List, List.map}
use Prim.Native.Nat.{ℕ, ◌<◌}
use native.Mathlib.Omega.{arith}
use lib.ListN.{length, length-map}
use Rattle.semantics.specs.{Lists.◌among◌, RuleSet.RuleSet, RuleSet.arity, Heap.Heap, Heap.whole_of, Formats.Valid, Tree.ByHand, Tree.Fits}
use Rattle.semantics.specs.Domain.{good, spares_of, domain}
use Rattle.semantics.specs.{Fact.fact, Fact.position, Fact.part_of, Fact.predicate_of, Fact.positions_of, Fact.values_at, Rounds.After, Rounds.Complete}
use Rattle.semantics.proofs.Bits.{whole_set, whole_members, whole_below}
use Rattle.semantics.proofs.Coding.{short_positions, code_predicate, code_part, code_positions, values_back}
use Rattle.semantics.proofs.{Parts.tree_below, Limits.Limits, Completeness.Setting, Completeness.by_hand_holds}
use Rattle.semantics.proofs.{DomainFacts.setting_of, DomainFacts.good_is_domain, DomainFacts.query-good, FixedPoint.table_holds, FixedPoint.complete_has}
use Rattle.semantics.proofs.Soundness.{Sound, sound, sound_fact, part_small}

-- every record exactly once, as a list and as a number
pub fits_whole : {rule_set : RuleSet} {heap : Heap} {p : ℕ} {vs : List ℕ} → Fits rule_set heap p vs → ByHand rule_set heap p vs (whole_of heap)
fits_whole {rule_set} {heap} h = record {
  taken = h.taken;
  tree = h.tree;
  once = h.once;
  part_taken = sym (whole_set (length heap) h.taken h.once (tree_below h.tree) h.all);
}

pub whole_fits : {rule_set : RuleSet} {heap : Heap} {p : ℕ} {vs : List ℕ} → ByHand rule_set heap p vs (whole_of heap) → Fits rule_set heap p vs
whole_fits {rule_set} {heap} h = record {
  taken = h.taken;
  tree = h.tree;
  once = h.once;
  all = whole_members (length heap) h.taken h.once (sym h.part_taken);
}

module _ (rule_set : RuleSet) (heap : Heap) (query : List ℕ) (valid : Valid rule_set heap query) where
  setting : Setting rule_set heap (good rule_set heap query) (spares_of rule_set heap query) (domain rule_set heap query)
  setting = setting_of rule_set heap query valid

  pub limits : Limits rule_set heap (domain rule_set heap query)
  limits = setting.limits

  -- Completeness: what a tree by hand shows of good values stands in every complete table.
  pub completeness : (p : ℕ) (vs : List ℕ) (part : ℕ) → ((v : ℕ) → v among vs → v among good rule_set heap query) → ByHand rule_set heap p vs part
      → {r : ℕ} {xs : List ℕ} → After rule_set heap (domain rule_set heap query) r xs → Complete rule_set heap (domain rule_set heap query) xs
      → fact (domain rule_set heap query) p vs part among xs
  completeness p vs part all-good h after complete =
      complete_has rule_set heap (domain rule_set heap query) complete (fact (domain rule_set heap query) p vs part)
      (by_hand_holds rule_set heap (good rule_set heap query) (spares_of rule_set heap query) (domain rule_set heap query) setting p vs part all-good h)

  -- Soundness: a fact of a table has a tree by hand, with its values and exactly its subheap.
  pub soundness : {r : ℕ} {xs : List ℕ} → After rule_set heap (domain rule_set heap query) r xs → (f : ℕ) → f among xs
      → Sound rule_set heap (domain rule_set heap query) f
  soundness after f m = sound rule_set heap (domain rule_set heap query) limits f (table_holds rule_set heap (domain rule_set heap query) after f m)

  -- The same, read off the number: predicate, the domain at its positions, subheap.
  pub soundness_read : {r : ℕ} {xs : List ℕ} → After rule_set heap (domain rule_set heap query) r xs → (f : ℕ) → f among xs
      → ByHand rule_set heap (predicate_of f) (values_at (domain rule_set heap query) (positions_of (arity rule_set (predicate_of f)) f)) (part_of f)
  soundness_read after f m =
      let values : List ℕ = domain rule_set heap query in
      let s = soundness after f m in
      let small = part_small rule_set heap values limits s.shown in
      let ps : List ℕ = map (position values) s.arguments in
      let short = short_positions values s.arguments limits.domain_few (omega (arith, s.counted, limits.rules_formed.arguments_few s.predicate)) s.keeps in
      let ep : predicate_of f ≡ s.predicate = ap predicate_of s.is_fact ∙ code_predicate s.predicate ps s.part short small in
      let en : part_of f ≡ s.part = ap part_of s.is_fact ∙ code_part s.predicate ps s.part small in
      let el : length ps ≡ arity rule_set (predicate_of f) = length-map s.arguments (position values) ∙ s.counted ∙ ap (arity rule_set) (sym ep) in
      let ev : positions_of (arity rule_set (predicate_of f)) f ≡ ps =
      ap (λ (n : ℕ). positions_of n f) (sym el) ∙ ap (positions_of (length ps)) s.is_fact ∙ code_positions s.predicate ps s.part short small in
      rw (ev, values_back values s.arguments s.keeps, en, ep) s.shown

  -- The fact of values asked about stands in the complete table with a subheap exactly if a finished tree by hand takes that subheap.
  pub part_verdict : {r : ℕ} {xs : List ℕ} → After rule_set heap (domain rule_set heap query) r xs → Complete rule_set heap (domain rule_set heap query) xs
      → (p : ℕ) (vs : List ℕ) → length vs ≡ arity rule_set p → ((v : ℕ) → v among vs → v among query) → (part : ℕ) → part < 65536
      → (fact (domain rule_set heap query) p vs part among xs) ↔ ByHand rule_set heap p vs part
  part_verdict after complete p vs counted belongs part small = (
    λ m. sound_fact rule_set heap (domain rule_set heap query) limits p vs part counted
        (λ v k. good_is_domain rule_set heap query v (query-good rule_set heap query v (belongs v k))) small
        (table_holds rule_set heap (domain rule_set heap query) after (fact (domain rule_set heap query) p vs part) m),
    λ h. completeness p vs part (λ v k. query-good rule_set heap query v (belongs v k)) h after complete,
  )

  -- With every record: the verdict.
  pub verdict : (p : ℕ) → length query ≡ arity rule_set p
      → {r : ℕ} {xs : List ℕ} → After rule_set heap (domain rule_set heap query) r xs → Complete rule_set heap (domain rule_set heap query) xs
      → (fact (domain rule_set heap query) p query (whole_of heap) among xs) ↔ Fits rule_set heap p query
  verdict p counted after complete =
      let (to, from) = part_verdict after complete p query counted (λ v k. k) (whole_of heap) (whole_below (length heap) 16 valid.heap_formed.records_few) in
      (λ m. whole_fits (to m), λ h. from (fits_whole h))
