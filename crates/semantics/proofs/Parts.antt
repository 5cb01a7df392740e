-- Records taken in a tree, and the disjoint join of subheaps as numbers.
use mathlib.Core.{Path.◌≡◌, Path.refl, Path.sym, Logic.⊎_elim}
use mathlib.Core.List.Memᴰ
use mathlib.Core.List.{List, [], ◌∷◌, ◌++◌, map}
use Prim.Native.Nat.{ℕ, ◌^◌, ◌≤◌, ◌<◌}
use native.Mathlib.{Omega.arith, Nat.add-zero}
use lib.ListN.{length}
use Rattle.semantics.specs.{Lists.◌among◌, Lists.Distinct, RuleSet.RuleSet, RuleSet.PointsTo, RuleSet.Call, Heap.Heap, Heap.set_of, Heap.Disjoint, Heap.Joins}
use Rattle.semantics.specs.Tree.{Takes, Tree, Forest}
use Rattle.semantics.proofs.Sharing.{disjoint_lists, lists_disjoint}
use Rattle.semantics.proofs.Bits.{distinct_apart, distinct_left, distinct_right, distinct_append, set_of-append, set_of_below}

-- every record taken is one of the heap
pub takes_below : {heap : Heap} {σ : List ℕ} {atoms : List PointsTo} {indices : List ℕ} → Takes heap σ atoms indices
    → (i : ℕ) → i among indices → i < length heap
takes_below Takes.none i m = absurd (Memᴰ.not-nil m)
takes_below {heap} (Takes.atom {i = k} h e rest) i m =
    ⊎_elim (λ (q : i ≡ k). rw q h) (takes_below rest i) (Memᴰ.cases_cons m)

mutual
  pub tree_below : {rule_set : RuleSet} {heap : Heap} {p : ℕ} {vs taken : List ℕ} → Tree rule_set heap p vs taken → (i : ℕ) → i among taken → i < length heap
  tree_below (Tree.node rule bound is below p a forest e) i m =
      ⊎_elim (takes_below a.takes i) (λ k. forest_below forest i k) (Memᴰ.append_cases is (rw e at m))

  pub forest_below : {rule_set : RuleSet} {heap : Heap} {σ : List ℕ} {calls : List Call} {taken : List ℕ} → Forest rule_set heap σ calls taken → (i : ℕ) → i among taken → i < length heap
  forest_below Forest.none i m = absurd (Memᴰ.not-nil m)
  forest_below (Forest.next here rest t forest e) i m =
      ⊎_elim (λ k. tree_below t i k) (λ k. forest_below forest i k) (Memᴰ.append_cases here (rw e at m))

pub small_part : {rule_set : RuleSet} {heap : Heap} {p : ℕ} {vs taken : List ℕ} → length heap ≤ 16 → Tree rule_set heap p vs taken → Distinct taken → set_of taken < 65536
small_part {taken} h t d = set_of_below 16 taken d (λ i m. omega (arith, tree_below t i m))

-- from lists without repeat to a join
pub joins_atoms : (indices below parts : List ℕ) → Distinct (indices ++ below) → Joins parts (set_of below)
    → Joins (map (λ (i : ℕ). 2 ^ i) indices ++ parts) (set_of (indices ++ below))
joins_atoms [] below parts d j = j
joins_atoms (i ∷ is) below parts (Distinct.next n d) j =
    Joins.next (rw (add-zero (2 ^ i)) at (disjoint_lists (i ∷ []) (is ++ below) (Distinct.next Memᴰ.not-nil Distinct.none) d single))
    (joins_atoms is below parts d j) refl
  where
    single : (k : ℕ) → k among i ∷ [] → ¬ (k among is ++ below)
    single k m h = ⊎_elim (λ (e : k ≡ i). n (Memᴰ.cast (sym e) h)) (λ m'. Memᴰ.not-nil m') (Memᴰ.cases_cons m)

pub joins_tree : (part : ℕ) (here rest parts : List ℕ) → part ≡ set_of here → Distinct (here ++ rest) → Joins parts (set_of rest)
    → Joins (part ∷ parts) (set_of (here ++ rest))
joins_tree part here rest parts e d j =
    Joins.next {part = part} {rest = set_of rest} {whole = set_of (here ++ rest)}
    (rw e (disjoint_lists here rest (distinct_left here rest d) (distinct_right here rest d) (distinct_apart here rest d)))
    j
    (omega (arith, set_of-append here rest))

-- and back: what is joined to the single bits of the points-to atoms, and that the list has no repeat
pub record Rest (indices parts : List ℕ) (whole : ℕ) : Type 0 where
  pub rest : ℕ
  pub joins : Joins parts rest
  pub all_once : (below : List ℕ) → Distinct below → set_of below ≡ rest → Distinct (indices ++ below) × (set_of (indices ++ below) ≡ whole)

pub atoms_joins : (indices parts : List ℕ) (whole : ℕ) → Joins (map (λ (i : ℕ). 2 ^ i) indices ++ parts) whole → Rest indices parts whole
atoms_joins [] parts whole j = record { rest = whole; joins = j; all_once = λ below d e. (d, e) }
atoms_joins (i ∷ is) parts whole (Joins.next {rest = m} e j w) = step (atoms_joins is parts m j)
  where
    step : Rest is parts m → Rest (i ∷ is) parts whole
    step r = record {
      rest = r.rest;
      joins = r.joins;
      all_once = λ below d h.
          let (d', h') = r.all_once below d h in
          let apart : Disjoint (set_of (i ∷ [])) (set_of (is ++ below)) = rw (add-zero (2 ^ i), h') e in (
            Distinct.next (lists_disjoint (i ∷ []) (is ++ below) (Distinct.next Memᴰ.not-nil Distinct.none) d' apart i (Memᴰ.head refl)) d',
            omega arith,
          );
    }

pub tree_joins : (here rest : List ℕ) → Distinct here → Distinct rest → Disjoint (set_of here) (set_of rest) → Distinct (here ++ rest)
tree_joins here rest dh dr e = distinct_append here rest dh dr (lists_disjoint here rest dh dr e)
