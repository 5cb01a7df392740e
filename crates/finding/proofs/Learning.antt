-- Links gone along: one term learnt, and several links one after the other. What was known stays, what is learnt is known, and values that
-- agree with what was known and give the terms what is learnt agree with what is known then.
use mathlib.Core.{List.List, Path.◌≡◌, Path.refl, Path.ap, Path.◌∙◌, Logic.⊎_elim}
use Prim.Native.Nat.{ℕ, ◌+◌, ◌≤◌, ◌<◌}
use native.Mathlib.{Omega.arith, Decide.ℕ_discrete}
use lib.{ListN.length, ListN.get_or, ListN.set, Seq.get_or-set_same, Seq.get_or-set_other}
use Rattle.semantics.specs.Tree.{value_of}
use Rattle.block.specs.{Layout.term_as, Ready.TermByte}
use Rattle.block.proofs.TermsInBlock.{term_variable, term_fixed}
use Rattle.finding.specs.Values.{open_entry, Valued, Learnt}
use Rattle.finding.specs.Links.{Keeps, AgreesTo, Along, AlongEach}

pub keeps_then : (a b c : List ℕ) → Keeps a b → Keeps b c → Keeps a c
keeps_then a b c ab bc v h = bc v (omega (arith, ab v h)) ∙ ab v h

-- ---- what is known of a term

-- it stays known
pub still_valued : (before after : List ℕ) (t : ℕ) → Keeps before after → Valued before t → Valued after t
still_valued before after t keeps h l = omega (arith, keeps t (h l), h l)

-- a value that is below the bound is known
pub small_valued : (value : ℕ → ℕ) (values : List ℕ) (t : ℕ) → value_of values (term_as value t) < open_entry → Valued values t
small_valued value values t h l = omega (arith, term_variable value values t l)

-- it is the term's value in all that agrees
pub agreed : (value : ℕ → ℕ) (Fixed : ℕ → Type 0) (n t : ℕ) (values σ : List ℕ) → n ≤ 8 → TermByte Fixed n t → AgreesTo n values σ → Valued values t
    → value_of σ (term_as value t) ≡ value_of values (term_as value t)
agreed value Fixed n t values σ few byte agrees h =
    ⊎_elim
    (λ l. omega (arith, term_variable value values t (omega arith), term_variable value σ t (omega arith), agrees t l (h (omega arith))))
    (λ e. omega (arith, term_fixed value values t e.0, term_fixed value σ t e.0))
    byte

-- ---- one term learnt

pub learnt_keeps : {t x : ℕ} {before after : List ℕ} → Learnt t x before after → Keeps before after
learnt_keeps (Learnt.kept k e) v h = ap (λ (l : List ℕ). get_or l v 0) e
learnt_keeps {t} {x} {before} {after} (Learnt.given l o e) v h = ap (λ (z : List ℕ). get_or z v 0) e ∙ get_or-set_other before t v x 0 (λ q. omega (arith, ap (λ (i : ℕ). get_or before i 0) q))

pub learnt_valued : {t x : ℕ} {before after : List ℕ} → length before ≡ 8 → x < open_entry → Learnt t x before after → Valued after t
learnt_valued {t} long few (Learnt.kept k e) = rw e k
learnt_valued {t} {x} {before} {after} long few (Learnt.given l o e) =
    let is : get_or after t 0 ≡ x = ap (λ (z : List ℕ). get_or z t 0) e ∙ get_or-set_same before t x 0 (omega arith) in
    λ low. omega arith

learnt_agrees : (value : ℕ → ℕ) {t x : ℕ} {before after : List ℕ} → length before ≡ 8 → Learnt t x before after
    → (n : ℕ) (σ : List ℕ) → value_of σ (term_as value t) ≡ x → AgreesTo n before σ → AgreesTo n after σ
learnt_agrees value {t} {x} {before} {after} long (Learnt.kept k e) n σ is agrees v h l =
    let same : get_or after v 0 ≡ get_or before v 0 = ap (λ (z : List ℕ). get_or z v 0) e in
    omega (arith, agrees v h (omega arith))
learnt_agrees value {t} {x} {before} {after} long (Learnt.given l o e) n σ is agrees v h k = step (ℕ_discrete v t)
  where
    at : (w : ℕ) → get_or after w 0 ≡ get_or (set before t x) w 0
    at w = ap (λ (z : List ℕ). get_or z w 0) e

    step : Dec (v ≡ t) → get_or σ v 0 ≡ get_or after v 0
    step (yes q) = rw q (omega (arith, at t, get_or-set_same before t x 0 (omega arith), term_variable value σ t (omega arith)))
    step (no q) =
        let other : get_or after v 0 ≡ get_or before v 0 = at v ∙ get_or-set_other before t v x 0 q in
        omega (arith, agrees v h (omega arith))

-- a link that says which value the term has
pub learnt_along : (value : ℕ → ℕ) {t x : ℕ} {before after : List ℕ} → length before ≡ 8 → x < open_entry → Learnt t x before after
    → (n : ℕ) → Along n (λ σ. value_of σ (term_as value t) ≡ x) (λ b a. Valued a t) before after
learnt_along value long few l n = record { keeps = learnt_keeps l; agrees = learnt_agrees value long l n; closed = learnt_valued long few l }

-- ---- links one after the other

-- what a link leads to stays so with less known before and more after
abbrev pub Stays : (ℕ → List ℕ → List ℕ → Type 0) → Type 0
Stays Closed = (k : ℕ) (a b c d : List ℕ) → Keeps a b → Closed k b c → Keeps c d → Closed k a d

-- a link where nothing is learnt
pub along_still : {n : ℕ} {Holds : List ℕ → Type 0} {Closed : List ℕ → List ℕ → Type 0} {values : List ℕ} → Closed values values → Along n Holds Closed values values
along_still closed = record { keeps = λ v h. refl; agrees = λ σ holds agrees. agrees; closed = closed }

module _ (n : ℕ) (Holds : ℕ → List ℕ → Type 0) (Closed : ℕ → List ℕ → List ℕ → Type 0) where
  pub along_none : (values : List ℕ) → AlongEach 0 n Holds Closed values values
  along_none values = along_still (λ k h. absurd (omega arith))

  pub along_more : Stays Closed → (m : ℕ) (before middle after : List ℕ) → AlongEach m n Holds Closed before middle → Along n (Holds m) (Closed m) middle after
      → AlongEach (m + 1) n Holds Closed before after
  along_more stays m before middle after first last = record {
    keeps = keeps_then before middle after first.keeps last.keeps;
    agrees = λ σ holds agrees. last.agrees σ (holds m (omega arith)) (first.agrees σ (λ k h. holds k (omega arith)) agrees);
    closed = λ k h. elim (ℕ_discrete k m) [
      | yes e ↦ rw e (stays m before middle after after first.keeps last.closed (λ v l. refl))
      | no q ↦ stays k before before middle after (λ v l. refl) (first.closed k (omega arith)) last.keeps
    ];
  }
