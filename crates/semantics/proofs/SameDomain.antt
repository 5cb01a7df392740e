-- The domain is decided by the members of the good values: rule sets that list the same constants in other ways have one domain.
use mathlib.Core.{Path.◌≡◌, Path.refl, Path.ap, Path.ap₂, Logic.⊎_elim}
use mathlib.Core.List.Memᴰ
use mathlib.Core.List.{List, [], ◌∷◌, ◌++◌}
use Prim.Native.Nat.{ℕ, zero, suc, ◌+◌, max}
use native.Mathlib.Omega.{arith}
use lib.ListN.{get_or}
use Rattle.semantics.specs.{Lists.◌among◌, RuleSet.Rule, RuleSet.RuleSet, SameConstants.SameRules, Heap.Heap}
use Rattle.semantics.specs.Domain.{good, least, spares, ascending, most_variables, domain}
use Rattle.semantics.proofs.{Order.same_members, DomainFacts.least_outside, DomainFacts.least_smallest}
use Rattle.semantics.proofs.DomainFacts.{ascending_in, ascending_out, ascending-ascending}

-- ---- members decide

abbrev Within : List ℕ → List ℕ → Type 0
Within xs ys = (v : ℕ) → v among xs → v among ys

cons_within : (a : ℕ) {xs ys : List ℕ} → Within xs ys → Within (a ∷ xs) (a ∷ ys)
cons_within a h v m = ⊎_elim Memᴰ.head (λ k. Memᴰ.tail (h v k)) (Memᴰ.cases_cons m)

append_within : {xs xs' ys ys' : List ℕ} → Within xs xs' → Within ys ys' → Within (xs ++ ys) (xs' ++ ys')
append_within {xs} {xs'} {ys} {ys'} h k v m =
    ⊎_elim (λ l. Memᴰ.append_left ys' (h v l)) (λ r. Memᴰ.append_right xs' (k v r)) (Memᴰ.append_cases xs m)

-- the spares
least_same : (xs ys : List ℕ) → Within xs ys → Within ys xs → least xs ≡ least ys
least_same xs ys to from =
    omega (
      arith,
      least_smallest xs (least ys) (λ m. least_outside ys (to (least ys) m)),
      least_smallest ys (least xs) (λ m. least_outside xs (from (least xs) m)),
    )

spares_same : (n : ℕ) (xs ys : List ℕ) → Within xs ys → Within ys xs → spares n xs ≡ spares n ys
unfolding spares
spares_same zero xs ys to from = refl
spares_same (suc n) xs ys to from =
    rw (least_same xs ys to from)
    (ap (λ (more : List ℕ). least ys ∷ more)
    (spares_same n (least ys ∷ xs) (least ys ∷ ys) (cons_within (least ys) to) (cons_within (least ys) from)))

-- the ascending list
ascending_same : (xs ys : List ℕ) → Within xs ys → Within ys xs → ascending xs ≡ ascending ys
ascending_same xs ys to from =
    same_members (ascending xs) (ascending ys) (ascending-ascending xs) (ascending-ascending ys)
    (λ v m. ascending_in ys v (to v (ascending_out xs v m))) (λ v m. ascending_in xs v (from v (ascending_out ys v m)))

-- ---- the domain

most_same : (a b : RuleSet) → a.arities ≡ b.arities → (rules : List Rule) → most_variables a rules ≡ most_variables b rules
unfolding most_variables
most_same a b e [] = refl
most_same a b e (rule ∷ rules) = ap₂ max (ap (λ (counts : List ℕ). get_or counts rule.head 0 + rule.bound) e) (most_same a b e rules)

module _ {a b : RuleSet} (same : SameRules a b) (heap : Heap) (values : List ℕ) where
  good_to : Within (good a heap values) (good b heap values)
  good_to = append_within (λ v. (same.fixed v).0) (λ v m. m)

  good_from : Within (good b heap values) (good a heap values)
  good_from = append_within (λ v. (same.fixed v).1) (λ v m. m)

  pub same_domain : domain a heap values ≡ domain b heap values
  unfolding domain
  same_domain =
      let n = most_variables b b.rules in
      let kept : List ℕ = spares n (good b heap values) in
      rw (most_same a b same.arities a.rules, same.rules, spares_same n (good a heap values) (good b heap values) good_to good_from)
      (ascending_same (kept ++ good a heap values) (kept ++ good b heap values)
      (append_within {xs = kept} (λ v m. m) good_to) (append_within {xs = kept} (λ v m. m) good_from))
