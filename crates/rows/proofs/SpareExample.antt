-- Why an input in positions has spare positions, by an example: P(a) if some b is not a. By hand P(0) holds of the empty heap; over the
-- domain 0 alone nothing follows, and over 0, 1, with a spare position for b, it does.
use mathlib.Core.{Path.◌≡◌, Path.refl, Path.ap, Path.ap₂, Path.◌∙◌, Logic.⊎_elim}
use mathlib.Core.List.Memᴰ
use mathlib.Core.List.{List, [], ◌∷◌, ◌++◌}
use Prim.Native.Nat.{ℕ, ◌+◌, ◌<◌}
use native.Mathlib.Omega.{arith}
use lib.ListN.{length, get_or, length-append}
use Rattle.semantics.specs.{RuleSet.var, RuleSet.unequal, RuleSet.Pure, RuleSet.Rule, RuleSet.RuleSet, RuleSet.arity, Heap.Joins, Tree.Takes, Fact.fact}
use Rattle.semantics.specs.{Rounds.Called, Rounds.Ground, Placed.upto}
use Rattle.semantics.proofs.{Coding.get_d_in, Placed.below_upto, Placed.in_upto}

abbrev pub differ : Pure
differ = record { kind = unequal; left = var 0; right = var 1 }

abbrev pub other : Rule
other = record { head = 0; bound = 1; pures = differ ∷ []; points_to = []; calls = [] }

abbrev pub others : RuleSet
others = record { arities = 1 ∷ []; constants = []; rules = other ∷ [] }

pub none_without_spare : (called : List ℕ) (f : ℕ) → ¬ Ground others [] (upto 1) called f
none_without_spare called f g =
    let e : g.rule ≡ other = ⊎_elim (λ (q : g.rule ≡ other). q) (λ k. absurd (Memᴰ.not-nil k)) (Memᴰ.cases_cons g.applies.listed) in
    let σ : List ℕ = g.arguments ++ g.bound in
    let l : length σ ≡ 2 = length-append g.arguments g.bound ∙ two e in
    let low : (i : ℕ) → i < 2 → get_or σ i 0 < 1 = λ i h. below_upto 1 (get_or σ i 0) (g.keeps (get_or σ i 0) (get_d_in σ i (omega (arith, l)))) in
    g.applies.meets differ (rw e (Memᴰ.head refl)) (omega (arith, low 0 (omega arith), low 1 (omega arith)))
  where
    two : g.rule ≡ other → length g.arguments + length g.bound ≡ 2
    two e = ap₂ (λ (a b : ℕ). a + b) (g.applies.arguments_counted ∙ ap (λ (r : Rule). arity others r.head) e) (g.applies.bound_counted ∙ ap (λ (r : Rule). r.bound) e)

pub one_with_spare : Ground others [] (upto 2) [] (fact (upto 2) 0 (0 ∷ []) 0)
one_with_spare = record {
  rule = other;
  arguments = 0 ∷ [];
  bound = 1 ∷ [];
  indices = [];
  part = 0;
  applies = record {
    listed = Memᴰ.head refl;
    arguments_counted = refl;
    bound_counted = refl;
    meets = λ pure m. ⊎_elim (λ (e : pure ≡ differ). rw e (λ z. omega (arith, z))) (λ k. absurd (Memᴰ.not-nil k)) (Memᴰ.cases_cons m);
    takes = Takes.none;
  };
  keeps = λ v m. in_upto 2 v (⊎_elim (λ e. omega arith) (λ k. ⊎_elim (λ e. omega arith) (λ n. absurd (Memᴰ.not-nil n)) (Memᴰ.cases_cons k)) (Memᴰ.cases_cons m));
  calls = Called.none;
  joins = Joins.none;
  is_fact = refl;
}
