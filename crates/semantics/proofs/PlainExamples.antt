-- Four plain rule sets, one of them with two calls in a rule and one with constants, and for each of the three conditions a rule set that
-- fails it and keeps the other two. The house book is not plain.
use mathlib.Core.{Path.◌≡◌, Path.refl, Path.sym, Path.◌∙◌, Path.subst, Logic.⊎_elim, Logic.by_cases, Logic.◌≢◌}
use mathlib.Core.List.Memᴰ
use mathlib.Core.List.{List, [], ◌∷◌, ◌++◌, cons≢nil}
use Prim.Native.Nat.{ℕ, zero, suc, ◌<◌}
use native.Mathlib.{Omega.arith, Decide.dec_lt}
use lib.ListN.{length, get_or, get_or-append}
use Rattle.semantics.specs.{Lists.◌among◌, Tree.value_of, Tree.Meets, Formats.read_rule_set, Contract.house}
use Rattle.semantics.specs.Reader.{Result, accepted, refused, times, counted}
use Rattle.semantics.specs.RuleSet.{Term, var, fixed, unequal, Pure, Rule, RuleSet, arity, rule_of}
use Rattle.semantics.specs.Plain.{Consumes, Consuming, equals, Fixed, AllFixed, VariablesFixed, Allows, Exclude, Exclusive, Plain}

-- ---- lists of one and of two

only : {A : Type 0} (P : A → Type 0) {one : A} → P one → (x : A) → x among one ∷ [] → P x
only P p x m = ⊎_elim (λ e. subst P (sym e) p) (λ z. absurd (Memᴰ.not-nil z)) (Memᴰ.cases_cons m)

both : {A : Type 0} (P : A → Type 0) {one other : A} → P one → P other → (x : A) → x among one ∷ other ∷ [] → P x
both P p q x m = ⊎_elim (λ e. subst P (sym e) p) (λ k. only P q x k) (Memᴰ.cases_cons m)

-- ---- rule sets of two rules

exclusive_pair : (rule_set : RuleSet) → length rule_set.rules ≡ 2 → Exclude rule_set (rule_of rule_set 0) (rule_of rule_set 1) → Exclusive rule_set
exclusive_pair rule_set two e i zero l h = absurd (omega arith)
exclusive_pair rule_set two e zero (suc zero) l h = e
exclusive_pair rule_set two e (suc i) (suc zero) l h = absurd (omega arith)
exclusive_pair rule_set two e i (suc (suc j)) l h = absurd (omega arith)

abbrev differs : Term → Term → Pure
differs left right = record { kind = unequal; left = left; right = right }

-- A term whose value n arguments decide: one of the first n variables, or a fixed value.
abbrev FromHead : ℕ → Term → Type 0
FromHead n (var v) = v < n
FromHead n (fixed x) = Unit {0}

same_value : (arguments b c : List ℕ) (term : Term) → FromHead (length arguments) term → value_of (arguments ++ b) term ≡ value_of (arguments ++ c) term
same_value arguments b c (var v) l = get_or-append arguments b 0 v l ∙ sym (get_or-append arguments c 0 v l)
same_value arguments b c (fixed x) l = refl

-- Two rules exclude each other if one has an equality of such terms, and the other its contrary.
contrary : (rule_set : RuleSet) (rule other : Rule) (left right : Term) → FromHead (arity rule_set rule.head) left → FromHead (arity rule_set rule.head) right
    → equals left right among rule.pures → differs left right among other.pures → Exclude rule_set rule other
contrary rule_set rule other left right l r m k same arguments counted a b =
    b.meets (differs left right) k
    (same_value arguments b.bound a.bound left (rw counted l) ∙ a.meets (equals left right) m ∙ same_value arguments a.bound b.bound right (rw counted r))

-- ---- list segments

-- The empty segment, from an address to itself.
abbrev empty : Rule
empty = record { head = 0; bound = 0; pures = equals (var 0) (var 1) ∷ []; points_to = []; calls = [] }

-- A record, and a segment from where it points to, under further conditions.
abbrev longer : List Pure → Rule
longer pures = record {
  head = 0;
  bound = 1;
  pures = pures;
  points_to = record { address = 0; fields = var 2 ∷ [] } ∷ [];
  calls = record { predicate = 0; arguments = var 2 ∷ var 1 ∷ [] } ∷ [];
}

abbrev pub segments : List Pure → RuleSet
segments pures = record { arities = 2 ∷ []; constants = []; rules = empty ∷ longer pures ∷ [] }

abbrev pub differ : Pure
differ = differs (var 0) (var 1)

module _ (pures : List Pure) where
  longer_fixed : AllFixed (segments pures) (longer pures)
  longer_fixed v h =
      by_cases (dec_lt v 2) (λ l. Fixed.of_head l)
      (λ n.
      let e : v ≡ 2 = omega arith in
      subst (λ (u : ℕ). Fixed (segments pures) (longer pures) (var u)) (sym e) (Fixed.of_field (Memᴰ.head refl) (Memᴰ.head refl) (Fixed.of_head (omega arith))))

-- A segment that ends where its end is first met is plain.
pub segment_plain : Plain (segments (differ ∷ []))
segment_plain = record {
  consuming = both Consumes (λ h. absurd (h refl)) (λ h e. cons≢nil e);
  all_fixed = both (AllFixed (segments (differ ∷ []))) (λ v h. Fixed.of_head (omega arith)) (longer_fixed (differ ∷ []));
  exclusive =
      exclusive_pair (segments (differ ∷ [])) refl
      (contrary (segments (differ ∷ [])) empty (longer (differ ∷ [])) (var 0) (var 1) (omega arith) (omega arith) (Memᴰ.head refl) (Memᴰ.head refl));
}

-- One that may go on past its end is not: both rules are met where the arguments are equal. The other conditions it keeps.
pub overlapping_alone : Consuming (segments []) × VariablesFixed (segments []) × (¬ Exclusive (segments []))
overlapping_alone = (
  both Consumes (λ h. absurd (h refl)) (λ h e. cons≢nil e),
  both (AllFixed (segments [])) (λ v h. Fixed.of_head (omega arith)) (longer_fixed []),
  λ exclusive.
      exclusive 0 1 (omega arith) (omega arith) refl (0 ∷ 0 ∷ []) refl
      (record {
        bound = [];
        bound_counted = refl;
        meets = only (Meets (0 ∷ 0 ∷ [])) refl;
      })
      (record { bound = 0 ∷ []; bound_counted = refl; meets = λ pure m. absurd (Memᴰ.not-nil m) }),
)

-- ---- binary trees

-- The empty tree, at nil.
abbrev leaf : Rule
leaf = record { head = 0; bound = 0; pures = equals (var 0) (fixed 0) ∷ []; points_to = []; calls = [] }

-- A record that points to two trees.
abbrev fork : Rule
fork = record {
  head = 0;
  bound = 2;
  pures = differs (var 0) (fixed 0) ∷ [];
  points_to = record { address = 0; fields = var 1 ∷ var 2 ∷ [] } ∷ [];
  calls = record { predicate = 0; arguments = var 1 ∷ [] } ∷ record { predicate = 0; arguments = var 2 ∷ [] } ∷ [];
}

abbrev pub trees : RuleSet
trees = record { arities = 1 ∷ []; constants = []; rules = leaf ∷ fork ∷ [] }

-- The address is nil or not, and fixes both fields.
pub tree_plain : Plain trees
tree_plain = record {
  consuming = both Consumes (λ h. absurd (h refl)) (λ h e. cons≢nil e);
  all_fixed = both (AllFixed trees) (λ v h. Fixed.of_head (omega arith)) fork_fixed;
  exclusive = exclusive_pair trees refl (contrary trees leaf fork (var 0) (fixed 0) (omega arith) tt (Memᴰ.head refl) (Memᴰ.head refl));
}
  where
    address : Fixed trees fork (var 0)
    address = Fixed.of_head {v = 0} (omega arith)

    fork_fixed : AllFixed trees fork
    fork_fixed zero h = address
    fork_fixed (suc zero) h = Fixed.of_field (Memᴰ.head refl) (Memᴰ.head refl) address
    fork_fixed (suc (suc zero)) h = Fixed.of_field (Memᴰ.head refl) (Memᴰ.tail (Memᴰ.head refl)) address
    fork_fixed (suc (suc (suc v))) h = absurd (omega arith)

-- ---- rules of two predicates

-- Its variables are fixed in every way: the argument, an equality to the left, nil, a field, an equality to the right.
abbrev tied : Rule
tied = record {
  head = 0;
  bound = 4;
  pures = equals (var 1) (var 0) ∷ equals (fixed 0) (var 2) ∷ equals (var 3) (var 4) ∷ [];
  points_to = record { address = 1; fields = var 3 ∷ [] } ∷ [];
  calls = record { predicate = 1; arguments = var 4 ∷ [] } ∷ [];
}

abbrev bare : Rule
bare = record { head = 1; bound = 0; pures = []; points_to = []; calls = [] }

abbrev pub kinds : RuleSet
kinds = record { arities = 1 ∷ 1 ∷ []; constants = []; rules = tied ∷ bare ∷ [] }

-- Every argument meets the conditions of both rules, which are of two predicates.
pub kinds_plain : Plain kinds
kinds_plain = record {
  consuming = both Consumes (λ h e. cons≢nil e) (λ h. absurd (h refl));
  all_fixed = both (AllFixed kinds) tied_fixed (λ v h. Fixed.of_head (omega arith));
  exclusive = exclusive_pair kinds refl (λ e. absurd (omega (arith, e)));
}
  where
    address : Fixed kinds tied (var 1)
    address = Fixed.to_left (Memᴰ.head refl) (Fixed.of_head {v = 0} (omega arith))

    field : Fixed kinds tied (var 3)
    field = Fixed.of_field (Memᴰ.head refl) (Memᴰ.head refl) address

    tied_fixed : AllFixed kinds tied
    tied_fixed zero h = Fixed.of_head {v = 0} (omega arith)
    tied_fixed (suc zero) h = address
    tied_fixed (suc (suc zero)) h = Fixed.to_right (Memᴰ.tail (Memᴰ.head refl)) Fixed.fixed_value
    tied_fixed (suc (suc (suc zero))) h = field
    tied_fixed (suc (suc (suc (suc zero)))) h = Fixed.to_right (Memᴰ.tail (Memᴰ.tail (Memᴰ.head refl))) field
    tied_fixed (suc (suc (suc (suc (suc v))))) h = absurd (omega arith)

-- ---- two constants, each the only argument of a rule, which has a record that holds the constant

abbrev coded : ℕ → Rule
coded code = record {
  head = 0;
  bound = 1;
  pures = equals (var 0) (fixed code) ∷ equals (fixed code) (var 1) ∷ [];
  points_to = record { address = 1; fields = fixed code ∷ [] } ∷ [];
  calls = [];
}

abbrev pub codes : ℕ → ℕ → RuleSet
codes x y = record { arities = 1 ∷ []; constants = x ∷ y ∷ []; rules = coded x ∷ coded y ∷ [] }

module _ (x y : ℕ) where
  each_coded : (P : Rule → Type 0) → ((code : ℕ) → P (coded code)) → (rule : Rule) → rule among (codes x y).rules → P rule
  each_coded P p = both P (p x) (p y)

  codes_consume : Consuming (codes x y)
  codes_consume = each_coded Consumes (λ code h. absurd (h refl))

  -- a constant fixes the variable that it is equal to
  codes_fixed : VariablesFixed (codes x y)
  codes_fixed = each_coded (AllFixed (codes x y)) (λ code v h.
      by_cases (dec_lt v 1) (λ l. Fixed.of_head l)
      (λ n.
      let e : v ≡ 1 = omega arith in
      subst (λ (u : ℕ). Fixed (codes x y) (coded code) (var u)) (sym e) (Fixed.to_right (Memᴰ.tail (Memᴰ.head refl)) Fixed.fixed_value)))

  -- the first argument is the constant wherever the conditions are met
  code_met : (code : ℕ) (arguments : List ℕ) → length arguments ≡ 1 → Allows (coded code) arguments → get_or arguments 0 0 ≡ code
  code_met code arguments counted a =
      sym (get_or-append arguments a.bound 0 0 (omega arith)) ∙ a.meets (equals (var 0) (fixed code)) (Memᴰ.head refl)

  -- Two different constants are unequal.
  pub codes_plain : x ≢ y → Plain (codes x y)
  codes_plain differ = record {
    consuming = codes_consume;
    all_fixed = codes_fixed;
    exclusive = exclusive_pair (codes x y) refl (λ e arguments counted a b. differ (sym (code_met x arguments counted a) ∙ code_met y arguments counted b));
  }

-- Only their values matter: the same constant twice is one.
pub codes_alone : (x : ℕ) → Consuming (codes x x) × VariablesFixed (codes x x) × (¬ Exclusive (codes x x))
codes_alone x = (
  codes_consume x x,
  codes_fixed x x,
  λ exclusive. exclusive 0 1 (omega arith) (omega arith) refl (x ∷ []) refl allowed allowed,
)
  where
    allowed : Allows (coded x) (x ∷ [])
    allowed = record {
      bound = x ∷ [];
      bound_counted = refl;
      meets = both (Meets (x ∷ x ∷ [])) refl refl;
    }

-- ---- rule sets of one rule, for a predicate with one argument

abbrev pub single : Rule → RuleSet
single rule = record { arities = 1 ∷ []; constants = []; rules = rule ∷ [] }

-- One whose bound variable stands nowhere.
abbrev pub loose : Rule
loose = record { head = 0; bound = 1; pures = []; points_to = []; calls = [] }

-- the number of a variable
abbrev number : Term → ℕ
number (var v) = v
number (fixed x) = 0

loose_fixed : {term : Term} → Fixed (single loose) loose term → number term < 1
loose_fixed Fixed.fixed_value = omega arith
loose_fixed (Fixed.of_head h) = h
loose_fixed (Fixed.to_right m f) = absurd (Memᴰ.not-nil m)
loose_fixed (Fixed.to_left m f) = absurd (Memᴰ.not-nil m)
loose_fixed (Fixed.of_field m k f) = absurd (Memᴰ.not-nil m)

pub loose_alone : Consuming (single loose) × (¬ VariablesFixed (single loose)) × Exclusive (single loose)
loose_alone = (
  only Consumes (λ h. absurd (h refl)),
  λ fixes. omega (arith, loose_fixed (fixes loose (Memᴰ.head refl) 1 (omega arith))),
  λ i j l h. absurd (omega arith),
)

-- One with a call and no points-to atom.
abbrev pub endless : Rule
endless = record { head = 0; bound = 0; pures = []; points_to = []; calls = record { predicate = 0; arguments = var 0 ∷ [] } ∷ [] }

pub endless_alone : (¬ Consuming (single endless)) × VariablesFixed (single endless) × Exclusive (single endless)
endless_alone = (
  λ consuming. consuming endless (Memᴰ.head refl) (λ e. cons≢nil e) refl,
  only (AllFixed (single endless)) (λ v h. Fixed.of_head (omega arith)),
  λ i j l h. absurd (omega arith),
)

-- The house book has such a rule, its last.
pub house_not_plain : (rule_set : RuleSet) → read_rule_set house ≡ accepted rule_set → ¬ Plain rule_set
unfolding read_rule_set times counted
house_not_plain rule_set e =
    subst NotPlain e (λ plain. plain.consuming _ (Memᴰ.tail (Memᴰ.tail (Memᴰ.tail (Memᴰ.head refl)))) (λ q. cons≢nil q) refl)
  where
    NotPlain : Result RuleSet → Type 0
    NotPlain (accepted r) = ¬ Plain r
    NotPlain (refused n) = ⊥
