-- The walk, step by step: how the outcomes of its parts make the outcome of the whole. Nothing is tried twice. A call that was walked has
-- left the only mask that it can leave, by precision, so the next call goes on from there; and the rule that was chosen is the only one
-- that applies. With each rule that calls at least one record is taken, so the fuel below need only be one less.
use mathlib.Core.{Path.◌≡◌, Path.refl, Path.sym, Path.ap, Path.◌∙◌, Path.subst, Path.subst₂, Logic.◌≢◌}
use mathlib.Core.{Option.Option, Option.none, Option.some, List.List, List.[], List.◌∷◌, List.◌++◌, List.cons≢nil}
use Prim.Native.Nat.{ℕ, suc, ◌≤◌, ◌<◌}
use native.Mathlib.Omega.{arith}
use lib.ListN.{length, length-append}
use Rattle.semantics.specs.{RuleSet.Call, RuleSet.Rule, RuleSet.RuleSet, Heap.Heap, Heap.Ordered, Tree.values_of, Tree.Tree, Tree.Forest, Plain.Plain}
use Rattle.semantics.specs.WalkOutcome.{Marks, WalkOutcome, FittingCalls, CallsOutcome, Chosen, Choosable}
use Rattle.semantics.proofs.{Addresses.takes_length, Precision.one_step, Precision.tree_same}
use Rattle.semantics.proofs.Marking.{marks_append, marks_split, marks_same}

some_long : {A : Type 0} (xs : List A) → xs ≢ [] → 1 ≤ length xs
some_long [] h = absurd (h refl)
some_long (x ∷ xs) h = omega arith

module _ (rule_set : RuleSet) (heap : Heap) where
  -- without calls the mask stays
  pub calls_end : {fuel : ℕ} {σ : List ℕ} {mask : ℕ} → CallsOutcome rule_set heap fuel σ [] mask (some mask)
  calls_end = CallsOutcome.found (record { taken = []; forest = Forest.none; marks = Marks.none })

  -- the first call has no tree
  pub calls_stop : {fuel : ℕ} {σ : List ℕ} {call : Call} {calls : List Call} {mask : ℕ}
      → WalkOutcome rule_set heap fuel call.predicate (values_of σ call.arguments) mask none → CallsOutcome rule_set heap fuel σ (call ∷ calls) mask none
  calls_stop {fuel} {σ} {call} {calls} {mask} (WalkOutcome.nothing n) = CallsOutcome.nothing (λ plain f. by plain f.forest f.marks f.short)
    where
      by : Plain rule_set → {taken : List ℕ} {after : ℕ} → Forest rule_set heap σ (call ∷ calls) taken → Marks mask taken after → (call ∷ calls ≢ [] → length taken < fuel) → ⊥
      by plain (Forest.next here rest tree forest t) m short =
          let (middle, m₁, m₂) = marks_split here (rw t at m) in
          let h = short (λ e. cons≢nil e) in
          n plain (record { taken = here; after = middle; tree = tree; marks = m₁; short = omega (arith, length-append here rest, ap length t) })

  module _ (ordered : Ordered heap) where
    -- a tree for the first call, whose mask the other calls begin with
    pub calls_next : {fuel : ℕ} {σ : List ℕ} {call : Call} {calls : List Call} {mask middle : ℕ} {o : Option ℕ}
        → WalkOutcome rule_set heap fuel call.predicate (values_of σ call.arguments) mask (some middle) → CallsOutcome rule_set heap fuel σ calls middle o
        → CallsOutcome rule_set heap fuel σ (call ∷ calls) mask o
    calls_next (WalkOutcome.found w) (CallsOutcome.found ws) =
        CallsOutcome.found (record { taken = w.taken ++ ws.taken; forest = Forest.next w.taken ws.taken w.tree ws.forest refl; marks = marks_append w.marks ws.marks })
    calls_next {fuel} {σ} {call} {calls} {mask} {middle} (WalkOutcome.found w) (CallsOutcome.nothing n) = CallsOutcome.nothing (λ plain f. by plain f.forest f.marks f.short)
      where
        by : Plain rule_set → {taken : List ℕ} {after : ℕ} → Forest rule_set heap σ (call ∷ calls) taken → Marks mask taken after → (call ∷ calls ≢ [] → length taken < fuel) → ⊥
        by plain {after = after} (Forest.next here rest tree forest t) m short =
            let (m', m₁, m₂) = marks_split here (rw t at m) in
            let same : here ≡ w.taken = tree_same rule_set heap ordered plain tree w.tree in
            let one : m' ≡ middle = marks_same same m₁ w.marks in
            let h = short (λ e. cons≢nil e) in
            n plain (record { taken = rest; after = after; forest = forest; marks = rw one at m₂; short = λ z. omega (arith, length-append here rest, ap length t) })

    -- a rule with free records, whose mask its calls begin with
    pub node_next : {fuel p mask after : ℕ} {arguments σ : List ℕ} {rule : Rule} {o : Option ℕ} → Chosen rule_set heap mask p arguments rule σ after
        → CallsOutcome rule_set heap fuel σ rule.calls after o → WalkOutcome rule_set heap (suc fuel) p arguments mask o
    node_next {fuel} {p} {mask} {after} {arguments} {σ} {rule} {o} c w = by (subst (λ (τ : List ℕ). CallsOutcome rule_set heap fuel τ rule.calls after o) c.are_values w)
      where
        only : Plain rule_set → ¬ FittingCalls rule_set heap fuel (arguments ++ c.bound) rule.calls after → {taken : List ℕ} {last : ℕ}
            → Tree rule_set heap p arguments taken → Marks mask taken last → length taken < suc fuel → ⊥
        only plain n {last = last} (Tree.node other b is below e a forest t) m short =
            let (m', m₁, m₂) = marks_split is (rw t at m) in
            let s = one_step rule_set heap ordered plain (sym e ∙ c.heads) a c.applies in
            let one : m' ≡ after = marks_same s.same_indices m₁ c.marks in
            n (record {
              taken = below;
              after = last;
              forest = subst₂ (λ (r : Rule) (z : List ℕ). Forest rule_set heap (arguments ++ z) r.calls below) s.same_rule s.same_bound forest;
              marks = rw one at m₂;
              short = λ calls.
                  omega (
                    arith,
                    some_long rule.points_to (plain.consuming rule c.applies.listed calls),
                    takes_length c.applies.takes,
                    length-append is below,
                    ap length t,
                    ap length s.same_indices,
                  );
            })

        by : {o : Option ℕ} → CallsOutcome rule_set heap fuel (arguments ++ c.bound) rule.calls after o → WalkOutcome rule_set heap (suc fuel) p arguments mask o
        by (CallsOutcome.found ws) = WalkOutcome.found (record {
          taken = c.indices ++ ws.taken;
          tree = Tree.node rule c.bound c.indices ws.taken c.heads c.applies ws.forest refl;
          marks = marks_append c.marks ws.marks;
        })
        by (CallsOutcome.nothing n) = WalkOutcome.nothing (λ plain f. only plain (n plain) f.tree f.marks f.short)

  -- every rule is ruled out
  pub node_stop : {fuel p mask : ℕ} {arguments : List ℕ} → (Plain rule_set → (rule : Rule) → ¬ Choosable rule_set heap mask p arguments rule)
      → WalkOutcome rule_set heap fuel p arguments mask none
  node_stop {fuel} {p} {mask} {arguments} n = WalkOutcome.nothing (λ plain f. by plain f.tree f.marks)
    where
      by : Plain rule_set → {taken : List ℕ} {after : ℕ} → Tree rule_set heap p arguments taken → Marks mask taken after → ⊥
      by plain (Tree.node rule b is below e a forest t) m =
          let (middle, m₁, m₂) = marks_split is (rw t at m) in
          n plain rule (record { bound = b; indices = is; after = middle; heads = e; applies = a; marks = m₁ })

  -- without fuel there is no tree, since none takes fewer than no records
  pub fuel_stop : {p mask : ℕ} {arguments : List ℕ} → WalkOutcome rule_set heap 0 p arguments mask none
  fuel_stop = WalkOutcome.nothing (λ plain f. absurd (omega (arith, f.short)))
