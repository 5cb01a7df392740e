-- Whether every variable of a rule is fixed can be decided. Variables found to be fixed are listed, the head's first; as long as an equality or
-- a field leads from a listed one to another, that one is listed too. There are only so many, and once no link leads further, what is not
-- listed is not fixed.
use mathlib.Core.{Path.◌≡◌, Path.refl, Path.sym, Path.ap, Logic.◌⊎◌, Logic.inl, Logic.inr, Logic.⊎_elim}
use mathlib.Core.List.Memᴰ
use mathlib.Core.List.{List, ◌∷◌}
use Prim.Native.Nat.{ℕ, zero, suc, ◌+◌, ◌<◌}
use native.Mathlib.Omega.{arith}
use lib.ListN.{length}
use Rattle.semantics.specs.{Lists.◌among◌, Lists.Distinct, Lists.upward}
use Rattle.semantics.specs.RuleSet.{Term, var, fixed, Kind, equal, unequal, Pure, PointsTo, Rule, RuleSet, arity, variables, fixed_values, InScope, WellFormedRule}
use Rattle.semantics.specs.Plain.{equals, Fixed, AllFixed}
use Rattle.semantics.proofs.DomainFacts.{upward_in, upward-all, upward_distinct}
use Rattle.semantics.proofs.{Bits.dec_in, Termination.few_below, Decisions.some_decided, Decisions.below_decided}

-- ---- what is listed

-- A term is listed: a variable's number is; and fixed values always are.
abbrev Listed : List ℕ → Term → Type 0
Listed known (var v) = v among known
Listed known (fixed x) = Unit {0}

abbrev Missing : List ℕ → Term → Type 0
Missing known (var v) = ¬ (v among known)
Missing known (fixed x) = ⊥

listed_decided : (known : List ℕ) (t : Term) → Dec (Listed known t)
listed_decided known (var v) = dec_in v known
listed_decided known (fixed x) = yes tt

missing : (known : List ℕ) (t : Term) → ¬ Listed known t → Missing known t
missing known (var v) n = n
missing known (fixed x) n = n tt

missing_decided : (known : List ℕ) (t : Term) → Dec (Missing known t)
missing_decided known (var v) = elim (dec_in v known) [ yes m ↦ no (λ n. n m) | no n ↦ yes n ]
missing_decided known (fixed x) = no (λ e. e)

both_decided : {P Q : Type 0} → Dec P → Dec Q → Dec (P × Q)
both_decided (yes p) (yes q) = yes (p, q)
both_decided (yes p) (no n) = no (λ w. n w.1)
both_decided (no n) q = no (λ w. n w.0)

either_decided : {P Q : Type 0} → Dec P → Dec Q → Dec (P ⊎ Q)
either_decided (yes p) q = yes (inl p)
either_decided (no n) (yes q) = yes (inr q)
either_decided (no n) (no m) = no (λ w. ⊎_elim n m w)

equal_decided : (k : Kind) → Dec (k ≡ equal)
equal_decided equal = yes refl
equal_decided unequal = no (λ e. let z : ◌≡◌ {A = ℕ} 0 1 = cc in absurd (omega arith))

module _ (rule_set : RuleSet) (rule : Rule) (formed : WellFormedRule rule_set rule) where
  abbrev FixedHere : Term → Type 0
  FixedHere t = Fixed rule_set rule t

  abbrev Scoped : Term → Type 0
  Scoped t = InScope (fixed_values rule_set) (variables rule_set rule) t

  -- ---- a link that leads further

  abbrev ByPure : List ℕ → Pure → Type 0
  ByPure known p = (p.kind ≡ equal) × ((Listed known p.left × Missing known p.right) ⊎ (Listed known p.right × Missing known p.left))

  abbrev ByAtom : List ℕ → PointsTo → Type 0
  ByAtom known a = (a.address among known) × ((t : Term) × (t among a.fields) × Missing known t)

  abbrev Leads : List ℕ → Type 0
  Leads known = ((p : Pure) × (p among rule.pures) × ByPure known p) ⊎ ((a : PointsTo) × (a among rule.points_to) × ByAtom known a)

  leads_decided : (known : List ℕ) → Dec (Leads known)
  leads_decided known =
      either_decided
      (some_decided (ByPure known) rule.pures (λ p m.
      both_decided (equal_decided p.kind)
      (either_decided (both_decided (listed_decided known p.left) (missing_decided known p.right)) (both_decided (listed_decided known p.right) (missing_decided known p.left)))))
      (some_decided (ByAtom known) rule.points_to (λ a m.
      both_decided (dec_in a.address known) (some_decided (Missing known) a.fields (λ t l. missing_decided known t))))

  -- Listed are fixed variables of the rule, each once.
  record Found (known : List ℕ) : Type 0 where
    pub are_fixed : (v : ℕ) → v among known → FixedHere (var v)
    pub once : Distinct known
    pub low : (v : ℕ) → v among known → v < variables rule_set rule

  listed_fixed : {known : List ℕ} → Found known → (t : Term) → Listed known t → FixedHere t
  listed_fixed f (var v) m = f.are_fixed v m
  listed_fixed f (fixed x) m = Fixed.fixed_value

  -- what a link leads to
  record Next (known : List ℕ) : Type 0 where
    pub variable : ℕ
    pub is_fixed : FixedHere (var variable)
    pub is_missing : ¬ (variable among known)
    pub is_low : variable < variables rule_set rule

  next_term : (known : List ℕ) (t : Term) → FixedHere t → Missing known t → Scoped t → Next known
  next_term known (var v) f n s = record { variable = v; is_fixed = f; is_missing = n; is_low = s }
  next_term known (fixed x) f n s = absurd n

  as_equality : (p : Pure) → p among rule.pures → p.kind ≡ equal → equals p.left p.right among rule.pures
  as_equality p m e = Memᴰ.cast (ap (λ (k : Kind). record { kind = k; left = p.left; right = p.right }) (sym e)) m

  next : {known : List ℕ} → Found known → Leads known → Next known
  next {known} f (inl (p, m, (e, inl (l, n)))) =
      next_term known p.right (Fixed.to_right (as_equality p m e) (listed_fixed f p.left l)) n (formed.pures_right p m)
  next {known} f (inl (p, m, (e, inr (r, n)))) =
      next_term known p.left (Fixed.to_left (as_equality p m e) (listed_fixed f p.right r)) n (formed.pures_left p m)
  next {known} f (inr (a, m, (l, (t, k, n)))) = next_term known t (Fixed.of_field m k (f.are_fixed a.address l)) n (formed.atoms_fields a m t k)

  add : {known : List ℕ} → Found known → (w : Next known) → Found (w.variable ∷ known)
  add {known} f w = record {
    are_fixed = λ v m. ⊎_elim (λ e. rw e w.is_fixed) (f.are_fixed v) (Memᴰ.cases_cons m);
    once = Distinct.next w.is_missing f.once;
    low = λ v m. ⊎_elim (λ e. omega (arith, e, w.is_low)) (f.low v) (Memᴰ.cases_cons m);
  }

  -- ---- until no link leads further

  record Saturated (first : List ℕ) : Type 0 where
    pub known : List ℕ
    pub found : Found known
    pub still : ¬ Leads known
    pub more : (v : ℕ) → v among first → v among known

  saturate : (fuel : ℕ) (known : List ℕ) → Found known → variables rule_set rule < fuel + length known → Saturated known
  saturate zero known f enough = absurd (omega (arith, few_below (variables rule_set rule) known f.once f.low))
  saturate (suc fuel) known f enough = step (leads_decided known) (λ w. saturate fuel (w.variable ∷ known) (add f w) (omega arith))
    where
      step : Dec (Leads known) → ((w : Next known) → Saturated (w.variable ∷ known)) → Saturated known
      step (no n) rec = record { known = known; found = f; still = n; more = λ v m. m }
      step (yes l) rec =
          let s = rec (next f l) in
          record { known = s.known; found = s.found; still = s.still; more = λ v m. s.more v (Memᴰ.tail m) }

  -- ---- from the head's variables

  heads : Found (upward (arity rule_set rule.head) 0)
  heads = record {
    are_fixed = λ v m. Fixed.of_head {v = v} (omega (arith, upward_in (arity rule_set rule.head) 0 v m));
    once = upward_distinct (arity rule_set rule.head) 0;
    low = λ v m. omega (arith, upward_in (arity rule_set rule.head) 0 v m);
  }

  module _ (s : Saturated (upward (arity rule_set rule.head) 0)) where
    on : (l r : Term) → equals l r among rule.pures → Listed s.known l → Listed s.known r
    on l r m k = elim (listed_decided s.known r) [ yes h ↦ h | no n ↦ absurd (s.still (inl (equals l r, m, (refl, inl (k, missing s.known r n))))) ]

    back : (l r : Term) → equals l r among rule.pures → Listed s.known r → Listed s.known l
    back l r m k = elim (listed_decided s.known l) [ yes h ↦ h | no n ↦ absurd (s.still (inl (equals l r, m, (refl, inr (k, missing s.known l n))))) ]

    into : (a : PointsTo) (t : Term) → a among rule.points_to → t among a.fields → a.address among s.known → Listed s.known t
    into a t m k l = elim (listed_decided s.known t) [ yes h ↦ h | no n ↦ absurd (s.still (inr (a, m, (l, (t, k, missing s.known t n))))) ]

    fixed_listed : (t : Term) → FixedHere t → Listed s.known t
    fixed_listed t Fixed.fixed_value = tt
    fixed_listed t (Fixed.of_head {v = v} h) = s.more v (upward-all (arity rule_set rule.head) 0 v (omega arith) (omega (arith, h)))
    fixed_listed t (Fixed.to_right {left = l} {right = r} m f) = on l r m (fixed_listed l f)
    fixed_listed t (Fixed.to_left {left = l} {right = r} m f) = back l r m (fixed_listed r f)
    fixed_listed t (Fixed.of_field {atom = a} m k f) = into a t m k (fixed_listed (var a.address) f)

  pub all_fixed_decided : Dec (AllFixed rule_set rule)
  all_fixed_decided =
      let s = saturate (suc (variables rule_set rule)) (upward (arity rule_set rule.head) 0) heads (omega arith) in
      below_decided (λ v. FixedHere (var v)) (variables rule_set rule)
      (λ v h. elim (dec_in v s.known) [ yes m ↦ yes (s.found.are_fixed v m) | no n ↦ no (λ f. n (fixed_listed s (var v) f)) ])
