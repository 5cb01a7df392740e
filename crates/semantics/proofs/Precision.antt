-- Precision: in a plain rule set and a heap in order, at most one subheap fits a predicate with given values. Two trees for it have one
-- rule at the top, since no other rule's pure conditions can be met by these arguments. Its variables have the same values in both trees:
-- each is fixed, and by induction on how, where a field is read from the only record at its address. So both trees take the same records
-- there and make the same calls, and below by induction.
use mathlib.Core.{Path.◌≡◌, Path.refl, Path.sym, Path.ap, Path.ap₂, Path.◌∙◌, Path.subst, Path.subst₂, Logic.⊎_elim, Logic.by_cases}
use mathlib.Core.List.Memᴰ
use mathlib.Core.List.{List, [], ◌∷◌, ◌++◌, map, append_cancel_left, head-eq_of_cons-eq, tail-eq_of_cons-eq}
use Prim.Native.Nat.{ℕ, ◌<◌}
use native.Mathlib.{Omega.arith, Decide.ℕ_discrete, Decide.dec_lt}
use lib.{ListN.length, ListN.get_or, ListN.length-append, ListN.get_or-append, Seq.ext_get_or}
use Rattle.semantics.specs.Lists.{◌among◌}
use Rattle.semantics.specs.RuleSet.{Term, Call, Rule, RuleSet, arity, blank_rule, rule_of}
use Rattle.semantics.specs.{Heap.Record, Heap.Heap, Heap.Ordered, Heap.blank, Heap.set_of}
use Rattle.semantics.specs.Tree.{value_of, asked, Applies, Tree, Forest, ByHand}
use Rattle.semantics.specs.Plain.{Fixed, Allows, Plain}
use Rattle.semantics.proofs.{Coding.spot, Addresses.address_once, Addresses.taken_by, Addresses.takes_same}

same_images : {A : Type 0} (f g : A → ℕ) (xs : List A) → map f xs ≡ map g xs → (x : A) → x among xs → f x ≡ g x
same_images f g [] e x m = absurd (Memᴰ.not-nil m)
same_images f g (y ∷ ys) e x m =
    ⊎_elim (λ q. ap f q ∙ head-eq_of_cons-eq e ∙ sym (ap g q)) (same_images f g ys (tail-eq_of_cons-eq e) x) (Memᴰ.cases_cons m)

-- Two applications that are one: the same rule, bound values and records.
pub record SameStep (rule other : Rule) (b c is js : List ℕ) : Type 0 where
  pub same_rule : rule ≡ other
  pub same_bound : b ≡ c
  pub same_indices : is ≡ js

-- A rule that stands twice in a plain rule set has conditions that nothing meets.
pub twice_unmet : (rule_set : RuleSet) → Plain rule_set → (i j : ℕ) → i < j → j < length rule_set.rules → rule_of rule_set i ≡ rule_of rule_set j
    → (arguments : List ℕ) → length arguments ≡ arity rule_set (rule_of rule_set i).head → ¬ Allows (rule_of rule_set i) arguments
twice_unmet rule_set plain i j l h e arguments counted a =
    plain.exclusive i j l h (ap (λ (r : Rule). r.head) e) arguments counted a (subst (λ (r : Rule). Allows r arguments) e a)

module _ (rule_set : RuleSet) (heap : Heap) (ordered : Ordered heap) where
  -- a fixed term has the same value whenever the rule applies
  fixed_same : {rule : Rule} {arguments b c is js : List ℕ} → Applies rule_set heap rule arguments b is → Applies rule_set heap rule arguments c js
      → {term : Term} → Fixed rule_set rule term → value_of (arguments ++ b) term ≡ value_of (arguments ++ c) term
  fixed_same a a' Fixed.fixed_value = refl
  fixed_same {arguments = vs} {b = b} {c = c} a a' (Fixed.of_head {v = v} h) =
      get_or-append vs b 0 v (omega (arith, a.arguments_counted)) ∙ sym (get_or-append vs c 0 v (omega (arith, a.arguments_counted)))
  fixed_same a a' (Fixed.to_right m f) = sym (a.meets _ m) ∙ fixed_same a a' f ∙ a'.meets _ m
  fixed_same a a' (Fixed.to_left m f) = a.meets _ m ∙ fixed_same a a' f ∙ sym (a'.meets _ m)
  fixed_same {arguments = vs} {b = b} {c = c} a a' (Fixed.of_field {atom = atom} {term = term} m k f) =
      let r = taken_by a.takes m in
      let s = taken_by a'.takes m in
      let here : r.index ≡ s.index =
      address_once ordered r.index s.index r.below s.below
      (ap (λ (x : Record). x.address) r.is ∙ fixed_same a a' f ∙ sym (ap (λ (x : Record). x.address) s.is)) in
      let one : asked (vs ++ b) atom ≡ asked (vs ++ c) atom = sym r.is ∙ ap (λ (i : ℕ). get_or heap i blank) here ∙ s.is in
      same_images (value_of (vs ++ b)) (value_of (vs ++ c)) atom.fields (ap (λ (x : Record). x.fields) one) term k

  module _ (plain : Plain rule_set) where
    allows : {rule : Rule} {arguments b is : List ℕ} → Applies rule_set heap rule arguments b is → Allows rule arguments
    allows {b = b} a = record { bound = b; bound_counted = a.bound_counted; meets = a.meets }

    apart : (arguments : List ℕ) (m n : ℕ) (r s : Rule) → m < n → n < length rule_set.rules → rule_of rule_set m ≡ r → rule_of rule_set n ≡ s → r.head ≡ s.head
        → length arguments ≡ arity rule_set r.head → Allows r arguments → Allows s arguments → ⊥
    apart arguments m n r s l h p q =
        subst₂ (λ (x y : Rule). x.head ≡ y.head → length arguments ≡ arity rule_set x.head → Allows x arguments → Allows y arguments → ⊥) p q
        (λ k counted. plain.exclusive m n l h k arguments counted)

    -- two rules that apply have one number
    one_rule : {rule other : Rule} {arguments b c is js : List ℕ} → rule.head ≡ other.head
        → Applies rule_set heap rule arguments b is → Applies rule_set heap other arguments c js → rule ≡ other
    one_rule {rule} {other} {arguments} e a a' =
        let (i, hi, ei) = spot blank_rule a.listed in
        let (j, hj, ej) = spot blank_rule a'.listed in
        by_cases (ℕ_discrete i j) (λ q. sym ei ∙ ap (rule_of rule_set) q ∙ ej)
        (λ n. absurd (by_cases (dec_lt i j) (λ l. apart arguments i j rule other l hj ei ej e a.arguments_counted (allows a) (allows a'))
        (λ g. apart arguments j i other rule (omega arith) hi ej ei (sym e) a'.arguments_counted (allows a') (allows a))))

    -- and the same bound values
    one_choice : {rule : Rule} {arguments b c is js : List ℕ} → Applies rule_set heap rule arguments b is → Applies rule_set heap rule arguments c js → b ≡ c
    one_choice {rule} {arguments} {b} {c} a a' =
        append_cancel_left arguments b c
        (ext_get_or 0 (arguments ++ b) (arguments ++ c) (omega (arith, length-append arguments b, length-append arguments c, a.bound_counted, a'.bound_counted))
        (λ v h. fixed_same a a' (plain.all_fixed rule a.listed v (omega (arith, length-append arguments b, a.arguments_counted, a.bound_counted)))))

    -- Rule, values and records are decided by the predicate and its arguments.
    pub one_step : {rule other : Rule} {arguments b c is js : List ℕ} → rule.head ≡ other.head
        → Applies rule_set heap rule arguments b is → Applies rule_set heap other arguments c js → SameStep rule other b c is js
    one_step {rule} {other} {arguments} {b} {c} {is} {js} e a a' =
        let r = one_rule e a a' in
        let a'' : Applies rule_set heap rule arguments c js = rw r a' in
        let q = one_choice a a'' in
        record { same_rule = r; same_bound = q; same_indices = takes_same ordered (rw (← q) a.takes) a''.takes }

    mutual
      pub tree_same : {p : ℕ} {vs xs ys : List ℕ} → Tree rule_set heap p vs xs → Tree rule_set heap p vs ys → xs ≡ ys
      tree_same {vs = vs} (Tree.node rule b is below e a forest t) (Tree.node other c js below' e' a' forest' t') =
          let s = one_step (sym e ∙ e') a a' in
          t
          ∙ ap₂ (λ (x y : List ℕ). x ++ y) s.same_indices
          (forest_same forest (subst₂ (λ (r : Rule) (z : List ℕ). Forest rule_set heap (vs ++ z) r.calls below') (sym s.same_rule) (sym s.same_bound) forest'))
          ∙ sym t'

      forest_same : {σ : List ℕ} {calls : List Call} {xs ys : List ℕ} → Forest rule_set heap σ calls xs → Forest rule_set heap σ calls ys → xs ≡ ys
      forest_same Forest.none Forest.none = refl
      forest_same (Forest.next here rest tree forest t) (Forest.next here' rest' tree' forest' t') =
          t ∙ ap₂ (λ (x y : List ℕ). x ++ y) (tree_same tree tree') (forest_same forest forest') ∙ sym t'

    -- The same records are taken, in one order, and so at most one subheap fits.
    pub precise : {p : ℕ} {vs : List ℕ} {part part' : ℕ} → (one : ByHand rule_set heap p vs part) (other : ByHand rule_set heap p vs part')
        → (one.taken ≡ other.taken) × (part ≡ part')
    precise one other =
        let e = tree_same one.tree other.tree in
        (e, one.part_taken ∙ ap set_of e ∙ sym other.part_taken)
