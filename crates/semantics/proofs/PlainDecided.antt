-- Whether a rule set is plain can be decided: each of its conditions can. Two rules of one predicate exclude each other exactly if no numbers
-- meet the conditions of both, where the head's variables are shared and the second rule's bound ones follow those of the first.
use mathlib.Core.{Bool.true, Bool.false, Path.◌≡◌, Path.refl, Path.sym, Path.ap, Path.◌∙◌, Path.subst₂, Logic.⊎_elim}
use mathlib.Core.List.Memᴰ
use mathlib.Core.List.{List, [], ◌∷◌, ◌++◌, map, cons≢nil}
use Prim.Native.Nat.{ℕ, zero, suc, ◌+◌, ◌-◌, ◌<◌}
use native.Mathlib.{Omega.arith, Decide.ℕ_discrete, Decide.dec_lt}
use lib.{ListN.length, ListN.get_or, ListN.length-append, ListN.get_or-append, Seq.get_or-append-add, Dec.ltb}
use borrow.Author.Tests.{lt-ltb, le-ltb}
use Rattle.semantics.specs.{Lists.◌among◌, Tree.value_of, Tree.Compare, Tree.Meets}
use Rattle.semantics.specs.RuleSet.{Term, var, fixed, Kind, Pure, PointsTo, Call, Rule, RuleSet, arity, variables, rule_of, fixed_values, InScope, WellFormedRule, WellFormed}
use Rattle.semantics.specs.Plain.{Consumes, Consuming, VariablesFixed, Allows, Exclude, Exclusive, Plain}
use Rattle.semantics.proofs.{Decisions.all_decided, Decisions.below_decided, FixedDecided.all_fixed_decided, Unifying.value, Unifying.Met, Unifying.Solved, Unifying.solved_decided, Taking.get_d_member}

-- ---- numbers as lists

abbrev firsts : ℕ → (ℕ → ℕ) → List ℕ
firsts zero σ = []
firsts (suc n) σ = σ 0 ∷ firsts n (λ i. σ (suc i))

firsts-length : (n : ℕ) (σ : ℕ → ℕ) → length (firsts n σ) ≡ n
firsts-length zero σ = refl
firsts-length (suc n) σ = ap suc (firsts-length n (λ i. σ (suc i)))

firsts_at : (n : ℕ) (σ : ℕ → ℕ) (v : ℕ) → v < n → get_or (firsts n σ) v 0 ≡ σ v
firsts_at zero σ v h = absurd (omega arith)
firsts_at (suc n) σ zero h = refl
firsts_at (suc n) σ (suc v) h = firsts_at n (λ i. σ (suc i)) v (omega arith)

-- arguments and bound values together
joined_at : (k m : ℕ) (σ τ : ℕ → ℕ) (v : ℕ) → v < k + m → get_or (firsts k σ ++ firsts m τ) v 0 ≡ elim (ltb v k) [ true ↦ σ v | false ↦ τ (v - k) ]
joined_at k m σ τ v h = step (dec_lt v k)
  where
    step : Dec (v < k) → get_or (firsts k σ ++ firsts m τ) v 0 ≡ elim (ltb v k) [ true ↦ σ v | false ↦ τ (v - k) ]
    step (yes l) = rw (lt-ltb v k l) (get_or-append (firsts k σ) (firsts m τ) 0 v (omega (arith, firsts-length k σ)) ∙ firsts_at k σ v l)
    step (no l) =
        let far : v ≡ length (firsts k σ) + (v - k) = omega (arith, firsts-length k σ) in
        rw (le-ltb v k (omega arith))
        (ap (λ (i : ℕ). get_or (firsts k σ ++ firsts m τ) i 0) far ∙ get_or-append-add (firsts k σ) (firsts m τ) (v - k) 0 ∙ firsts_at m τ (v - k) (omega arith))

-- ---- the conditions of two rules together

abbrev seat_of : ℕ → ℕ → ℕ → ℕ
seat_of k n v = elim (ltb v k) [ true ↦ v | false ↦ v + n ]

abbrev shifted : ℕ → ℕ → Term → Term
shifted k n (var v) = var (seat_of k n v)
shifted k n (fixed x) = fixed x

abbrev shifted_pure : ℕ → ℕ → Pure → Pure
shifted_pure k n p = record { kind = p.kind; left = shifted k n p.left; right = shifted k n p.right }

same_met : (kind : Kind) {x y x' y' : ℕ} → x ≡ x' → y ≡ y' → Compare kind x y → Compare kind x' y'
same_met kind p q = subst₂ (λ (u w : ℕ). Compare kind u w) p q

-- a list of a rule's values, and numbers for all variables
module _ (k n m : ℕ) (vs : List ℕ) (τ : List ℕ) (σ : ℕ → ℕ) (same : (v : ℕ) → v < m → get_or τ v 0 ≡ σ (seat_of k n v)) where
  second_value : (t : Term) → InScope vs m t → value_of τ t ≡ value σ (shifted k n t)
  second_value (var v) h = same v h
  second_value (fixed x) h = refl

  second_in : (p : Pure) → InScope vs m p.left → InScope vs m p.right → Meets τ p → Met σ (shifted_pure k n p)
  second_in p l r = same_met p.kind (second_value p.left l) (second_value p.right r)

  second_out : (p : Pure) → InScope vs m p.left → InScope vs m p.right → Met σ (shifted_pure k n p) → Meets τ p
  second_out p l r = same_met p.kind (sym (second_value p.left l)) (sym (second_value p.right r))

module _ (m : ℕ) (vs : List ℕ) (τ : List ℕ) (σ : ℕ → ℕ) (same : (v : ℕ) → v < m → get_or τ v 0 ≡ σ v) where
  first_value : (t : Term) → InScope vs m t → value_of τ t ≡ value σ t
  first_value (var v) h = same v h
  first_value (fixed x) h = refl

  first_in : (p : Pure) → InScope vs m p.left → InScope vs m p.right → Meets τ p → Met σ p
  first_in p l r = same_met p.kind (first_value p.left l) (first_value p.right r)

  first_out : (p : Pure) → InScope vs m p.left → InScope vs m p.right → Met σ p → Meets τ p
  first_out p l r = same_met p.kind (sym (first_value p.left l)) (sym (first_value p.right r))

module _ (rule_set : RuleSet) (rule other : Rule) (formed : WellFormedRule rule_set rule) (formed' : WellFormedRule rule_set other) (heads : rule.head ≡ other.head) where
  abbrev k : ℕ
  k = arity rule_set rule.head

  abbrev n : ℕ
  n = rule.bound

  same_variables : variables rule_set other ≡ k + other.bound
  same_variables = ap (λ (p : ℕ). arity rule_set p + other.bound) (sym heads)

  abbrev together : List Pure
  together = rule.pures ++ map (shifted_pure k n) other.pures

  left' : (p : Pure) → p among other.pures → InScope (fixed_values rule_set) (k + other.bound) p.left
  left' p m = rw (← same_variables) (formed'.pures_left p m)

  right' : (p : Pure) → p among other.pures → InScope (fixed_values rule_set) (k + other.bound) p.right
  right' p m = rw (← same_variables) (formed'.pures_right p m)

  -- numbers that meet both, from arguments that both allow
  both_solved : (a : List ℕ) → length a ≡ k → Allows rule a → Allows other a → Solved together
  both_solved a la one two = record {
    σ = σ;
    meets = λ p m. ⊎_elim
        (λ i. first_in (k + n) (fixed_values rule_set) (a ++ one.bound) σ own p (formed.pures_left p i) (formed.pures_right p i) (one.meets p i))
        (λ i.
        let (q, mq, e) = Memᴰ.of_map (shifted_pure k n) other.pures i in
        rw (← e) (second_in k n (k + other.bound) (fixed_values rule_set) (a ++ two.bound) σ others q (left' q mq) (right' q mq) (two.meets q mq)))
        (Memᴰ.append_cases rule.pures m);
  }
    where
      σ : ℕ → ℕ
      σ v = get_or ((a ++ one.bound) ++ two.bound) v 0

      own : (v : ℕ) → v < k + n → get_or (a ++ one.bound) v 0 ≡ σ v
      own v h = sym (get_or-append (a ++ one.bound) two.bound 0 v (omega (arith, length-append a one.bound, one.bound_counted)))

      others : (v : ℕ) → v < k + other.bound → get_or (a ++ two.bound) v 0 ≡ σ (seat_of k n v)
      others v h = step (dec_lt v k)
        where
          step : Dec (v < k) → get_or (a ++ two.bound) v 0 ≡ σ (seat_of k n v)
          step (yes l) =
              rw (lt-ltb v k l, seat_of)
              (get_or-append a two.bound 0 v (omega arith) ∙ sym (get_or-append a one.bound 0 v (omega arith)) ∙ own v (omega arith))
          step (no l) =
              let near : v ≡ length a + (v - k) = omega arith in
              let far : v + n ≡ length (a ++ one.bound) + (v - k) = omega (arith, length-append a one.bound, one.bound_counted) in
              rw (le-ltb v k (omega arith), seat_of)
              (ap (λ (i : ℕ). get_or (a ++ two.bound) i 0) near ∙ get_or-append-add a two.bound (v - k) 0
              ∙ sym (ap (λ (i : ℕ). get_or ((a ++ one.bound) ++ two.bound) i 0) far ∙ get_or-append-add (a ++ one.bound) two.bound (v - k) 0))

  -- and arguments that both allow, from such numbers
  solved_both : Solved together → ¬ Exclude rule_set rule other
  solved_both s exclude =
      exclude heads (firsts k s.σ) (firsts-length k s.σ)
      (record {
        bound = firsts n (λ i. s.σ (k + i));
        bound_counted = firsts-length n (λ i. s.σ (k + i));
        meets = λ p m. first_out (k + n) (fixed_values rule_set) (firsts k s.σ ++ firsts n (λ i. s.σ (k + i))) s.σ own p (formed.pures_left p m) (formed.pures_right p m)
            (s.meets p (Memᴰ.append_left (map (shifted_pure k n) other.pures) m));
      })
      (record {
        bound = firsts other.bound (λ i. s.σ (k + n + i));
        bound_counted = firsts-length other.bound (λ i. s.σ (k + n + i));
        meets = λ p m. second_out k n (k + other.bound) (fixed_values rule_set) (firsts k s.σ ++ firsts other.bound (λ i. s.σ (k + n + i))) s.σ others p (left' p m) (right' p m)
            (s.meets (shifted_pure k n p) (Memᴰ.append_right rule.pures (Memᴰ.map (shifted_pure k n) m)));
      })
    where
      own : (v : ℕ) → v < k + n → get_or (firsts k s.σ ++ firsts n (λ i. s.σ (k + i))) v 0 ≡ s.σ v
      own v h = joined_at k n s.σ (λ i. s.σ (k + i)) v h ∙ step (dec_lt v k)
        where
          step : Dec (v < k) → elim (ltb v k) [ true ↦ s.σ v | false ↦ s.σ (k + (v - k)) ] ≡ s.σ v
          step (yes l) = rw (lt-ltb v k l) refl
          step (no l) = let there : k + (v - k) ≡ v = omega arith in rw (le-ltb v k (omega arith)) (ap s.σ there)

      others : (v : ℕ) → v < k + other.bound → get_or (firsts k s.σ ++ firsts other.bound (λ i. s.σ (k + n + i))) v 0 ≡ s.σ (seat_of k n v)
      others v h = joined_at k other.bound s.σ (λ i. s.σ (k + n + i)) v h ∙ step (dec_lt v k)
        where
          step : Dec (v < k) → elim (ltb v k) [ true ↦ s.σ v | false ↦ s.σ (k + n + (v - k)) ] ≡ s.σ (seat_of k n v)
          step (yes l) = rw (lt-ltb v k l, seat_of) refl
          step (no l) = let there : k + n + (v - k) ≡ v + n = omega arith in rw (le-ltb v k (omega arith), seat_of) (ap s.σ there)

-- ---- each of the three

exclude_decided : (rule_set : RuleSet) (rule other : Rule) → WellFormedRule rule_set rule → WellFormedRule rule_set other → Dec (Exclude rule_set rule other)
exclude_decided rule_set rule other f g = step (ℕ_discrete rule.head other.head)
  where
    step : Dec (rule.head ≡ other.head) → Dec (Exclude rule_set rule other)
    step (no q) = yes (λ e. absurd (q e))
    step (yes e) = elim (solved_decided (together rule_set rule other f g e)) [
      | yes s ↦ no (solved_both rule_set rule other f g e s)
      | no q ↦ yes (λ h a counted one two. q (both_solved rule_set rule other f g e a counted one two))
    ]

consumes_decided : (rule : Rule) → Dec (Consumes rule)
consumes_decided rule = step rule.calls refl rule.points_to refl
  where
    step : (calls : List Call) → rule.calls ≡ calls → (atoms : List PointsTo) → rule.points_to ≡ atoms → Dec (Consumes rule)
    step [] e atoms q = yes (λ some. absurd (some e))
    step (c ∷ cs) e [] q = no (λ h. h (λ z. cons≢nil (sym e ∙ z)) q)
    step (c ∷ cs) e (a ∷ others) q = yes (λ some z. cons≢nil (sym q ∙ z))

pub plain_decided : (rule_set : RuleSet) → WellFormed rule_set → Dec (Plain rule_set)
plain_decided rule_set formed = step consuming all_fixed exclusive
  where
    at : (i : ℕ) → i < length rule_set.rules → WellFormedRule rule_set (rule_of rule_set i)
    at i h = formed.each (rule_of rule_set i) (get_d_member rule_set.rules i h)

    consuming : Dec (Consuming rule_set)
    consuming = all_decided Consumes rule_set.rules (λ rule m. consumes_decided rule)

    all_fixed : Dec (VariablesFixed rule_set)
    all_fixed = all_decided _ rule_set.rules (λ rule m. all_fixed_decided rule_set rule (formed.each rule m))

    pairs : Dec ((j : ℕ) → j < length rule_set.rules → (i : ℕ) → i < j → Exclude rule_set (rule_of rule_set i) (rule_of rule_set j))
    pairs =
        below_decided (λ j. (i : ℕ) → i < j → Exclude rule_set (rule_of rule_set i) (rule_of rule_set j)) (length rule_set.rules)
        (λ j h. below_decided (λ i. Exclude rule_set (rule_of rule_set i) (rule_of rule_set j)) j
        (λ i l. exclude_decided rule_set (rule_of rule_set i) (rule_of rule_set j) (at i (omega arith)) (at j h)))

    exclusive : Dec (Exclusive rule_set)
    exclusive = elim pairs [ yes e ↦ yes (λ i j l h. e j h i l) | no n ↦ no (λ e. n (λ j h i l. e i j l h)) ]

    step : Dec (Consuming rule_set) → Dec (VariablesFixed rule_set) → Dec (Exclusive rule_set) → Dec (Plain rule_set)
    step (yes a) (yes b) (yes c) = yes (record { consuming = a; all_fixed = b; exclusive = c })
    step (no n) b c = no (λ p. n p.consuming)
    step (yes a) (no n) c = no (λ p. n p.all_fixed)
    step (yes a) (yes b) (no n) = no (λ p. n p.exclusive)
