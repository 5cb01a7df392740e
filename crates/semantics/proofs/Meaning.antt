-- The meaning of definitions 2.3 and 2.4 is exactly that of finished trees by hand.
use mathlib.Core.{Path.◌≡◌, Path.refl, Path.sym, Logic.◌↔◌, List.List, List.[], List.◌∷◌, List.◌++◌}
use Prim.Native.Nat.{ℕ}
use native.Mathlib.Omega.{arith}
use Rattle.semantics.specs.{Lists.Distinct, RuleSet.Call, RuleSet.RuleSet, Heap.Heap, Heap.set_of, Heap.Joins, Tree.Tree, Tree.Forest, Tree.ByHand}
use Rattle.semantics.specs.Meaning.{Means, MeansCalls}
use Rattle.semantics.proofs.Bits.{set_of-append, distinct_left, distinct_right}
use Rattle.semantics.proofs.Parts.{atoms_joins, tree_joins, joins_atoms, joins_tree}

record Trees (rule_set : RuleSet) (heap : Heap) (σ : List ℕ) (calls : List Call) (whole : ℕ) : Type 0 where
  pub taken : List ℕ
  pub forest : Forest rule_set heap σ calls taken
  pub once : Distinct taken
  pub set : set_of taken ≡ whole

record Parts (rule_set : RuleSet) (heap : Heap) (σ : List ℕ) (calls : List Call) (taken : List ℕ) : Type 0 where
  pub parts : List ℕ
  pub means : MeansCalls rule_set heap σ calls parts
  pub joins : Joins parts (set_of taken)

mutual
  pub means_by_hand : {rule_set : RuleSet} {heap : Heap} {p : ℕ} {vs : List ℕ} {part : ℕ} → Means rule_set heap p vs part → ByHand rule_set heap p vs part
  means_by_hand {part} (Means.by_rule rule bound indices parts e a calls j) =
      let r = atoms_joins indices parts part j in
      let t = calls_by_hand calls r.rest r.joins in
      let (d, s) = r.all_once t.taken t.once t.set in
      record { taken = indices ++ t.taken; tree = Tree.node rule bound indices t.taken e a t.forest refl; once = d; part_taken = sym s }

  calls_by_hand : {rule_set : RuleSet} {heap : Heap} {σ : List ℕ} {calls : List Call} {parts : List ℕ} → MeansCalls rule_set heap σ calls parts
      → (whole : ℕ) → Joins parts whole → Trees rule_set heap σ calls whole
  calls_by_hand MeansCalls.none whole Joins.none = record { taken = []; forest = Forest.none; once = Distinct.none; set = refl }
  calls_by_hand (MeansCalls.next m ms) whole (Joins.next {rest = rest} b j w) =
      let h = means_by_hand m in
      let t = calls_by_hand ms rest j in
      record {
        taken = h.taken ++ t.taken;
        forest = Forest.next h.taken t.taken h.tree t.forest refl;
        once = tree_joins h.taken t.taken h.once t.once (rw (← h.part_taken, t.set) b);
        set = omega (arith, set_of-append h.taken t.taken, h.part_taken, t.set);
      }

mutual
  tree_means : {rule_set : RuleSet} {heap : Heap} {p : ℕ} {vs taken : List ℕ} → Tree rule_set heap p vs taken → Distinct taken → Means rule_set heap p vs (set_of taken)
  tree_means (Tree.node rule bound indices below e a forest t) d =
      let d' : Distinct (indices ++ below) = rw t at d in
      let q = forest_means forest (distinct_right indices below d') in
      rw t (Means.by_rule rule bound indices q.parts e a q.means (joins_atoms indices below q.parts d' q.joins))

  forest_means : {rule_set : RuleSet} {heap : Heap} {σ : List ℕ} {calls : List Call} {taken : List ℕ} → Forest rule_set heap σ calls taken → Distinct taken → Parts rule_set heap σ calls taken
  forest_means Forest.none d = record { parts = []; means = MeansCalls.none; joins = Joins.none }
  forest_means (Forest.next here rest tree forest t) d =
      let d' : Distinct (here ++ rest) = rw t at d in
      let q = forest_means forest (distinct_right here rest d') in
      record {
        parts = set_of here ∷ q.parts;
        means = MeansCalls.next (tree_means tree (distinct_left here rest d')) q.means;
        joins = rw t (joins_tree (set_of here) here rest q.parts refl d' q.joins);
      }

pub by_hand_means : {rule_set : RuleSet} {heap : Heap} {p : ℕ} {vs : List ℕ} {part : ℕ} → ByHand rule_set heap p vs part → Means rule_set heap p vs part
by_hand_means h = rw h.part_taken (tree_means h.tree h.once)

pub meaning : {rule_set : RuleSet} {heap : Heap} {p : ℕ} {vs : List ℕ} {part : ℕ} → Means rule_set heap p vs part ↔ ByHand rule_set heap p vs part
meaning = (means_by_hand, by_hand_means)
