-- What the entries say of a rule's variables: a term in scope is known where its entry is a value, and that value is what is known.
use mathlib.Core.{List.List, Option.none, Option.some, Path.◌≡◌, Path.refl, Path.sym, Path.ap, Path.◌∙◌, Logic.⊎_elim}
use Prim.Native.Nat.{ℕ, ◌-◌, ◌≤◌, ◌<◌}
use native.Mathlib.{Omega.arith, Decide.dec_lt}
use borrow.Author.Tests.{lt-ltb, le-ltb}
use lib.{ListN.length, ListN.get_or, ListN.take, ListN.length-map, ListN.get_or-map, ListN.get_or-eq_default, Seq.get_or-take, Seq.length-take-le}
use Rattle.semantics.specs.{Found.Known, Found.known_of, Found.Has, Found.Agrees, Tree.value_of}
use Rattle.block.specs.{Layout.term_as, Ready.TermByte}
use Rattle.block.proofs.TermsInBlock.{term_variable, term_fixed}
use Rattle.finding.specs.{Values.open_entry, Values.opens, Values.Valued, Values.told_by, Values.known_in, Links.AgreesTo}
use Rattle.finding.proofs.{Opens.opens_none, Learning.small_valued}

-- ---- one entry

told_value : (x : ℕ) → x < open_entry → told_by x ≡ some x
told_value x h = rw (lt-ltb x open_entry h, told_by) refl

told_open : (x : ℕ) → open_entry ≤ x → told_by x ≡ none
told_open x h = rw (le-ltb x open_entry h, told_by) refl

is_told : (x y : ℕ) → told_by x ≡ some y → (x < open_entry) × (x ≡ y)
is_told x y e = step (dec_lt x open_entry)
  where
    step : Dec (x < open_entry) → (x < open_entry) × (x ≡ y)
    step (yes l) = let same : some x ≡ some y = rw (lt-ltb x open_entry l, told_by) at e in (l, cc)
    step (no l) =
        let same : none ≡ some y = rw (le-ltb x open_entry (omega arith), told_by) at e in
        let z : ◌≡◌ {A = ℕ} 0 1 = cc in
        absurd (omega arith)

-- ---- a term

known_variable : (value : ℕ → ℕ) (env : Known) (t : ℕ) → t < 128 → known_of env (term_as value t) ≡ get_or env t (some 0)
known_variable value env t h = rw (lt-ltb t 128 h, known_of) refl

known_fixed : (value : ℕ → ℕ) (env : Known) (t : ℕ) → 128 ≤ t → known_of env (term_as value t) ≡ some (value (t - 128))
known_fixed value env t h = rw (le-ltb t 128 h, known_of) refl

module _ (values : List ℕ) (n : ℕ) where
  known_at : (v : ℕ) → v < n → get_or (known_in values n) v (some 0) ≡ told_by (get_or values v 0)
  known_at v h = get_or-map told_by (take n values) v 0 ∙ ap told_by (get_or-take n values v 0 h)

  pub has_entry : (v : ℕ) → v < n → get_or values v 0 < open_entry → get_or (known_in values n) v (some 0) ≡ some (get_or values v 0)
  has_entry v h l = known_at v h ∙ told_value (get_or values v 0) l

  pub open_entry_lem : (v : ℕ) → v < n → open_entry ≤ get_or values v 0 → get_or (known_in values n) v (some 0) ≡ none
  open_entry_lem v h o = known_at v h ∙ told_open (get_or values v 0) o

  pub entry_has : (v x : ℕ) → v < n → get_or (known_in values n) v (some 0) ≡ some x → (get_or values v 0 < open_entry) × (get_or values v 0 ≡ x)
  entry_has v x h e = is_told (get_or values v 0) x (sym (known_at v h) ∙ e)

  -- every term is known where nothing is open
  pub valued_all : (t : ℕ) → opens values ≡ 0 → Valued values t
  valued_all t closed l = opens_none values closed t

  module _ (value : ℕ → ℕ) (few : n ≤ 8) (t : ℕ) (byte : TermByte (λ b. value (b - 128) < open_entry) n t) where
    known_term : known_of (known_in values n) (term_as value t) ≡ told_by (value_of values (term_as value t))
    known_term =
        ⊎_elim
        (λ l. known_variable value (known_in values n) t (omega arith) ∙ known_at t l ∙ ap told_by (term_variable value values t (omega arith)))
        (λ f. known_fixed value (known_in values n) t f.0 ∙ sym (told_value (value (t - 128)) f.1) ∙ ap told_by (term_fixed value values t f.0))
        byte

    pub valued_small : Valued values t → value_of values (term_as value t) < open_entry
    valued_small h =
        ⊎_elim (λ l. omega (arith, h (omega arith), term_variable value values t (omega arith))) (λ f. omega (arith, f.1, term_fixed value values t f.0)) byte

    pub valued_has : Valued values t → Has (known_in values n) (term_as value t)
    valued_has h = (value_of values (term_as value t), known_term ∙ told_value (value_of values (term_as value t)) (valued_small h))

    has_valued : Has (known_in values n) (term_as value t) → Valued values t
    has_valued has =
        let (x, e) = has in
        small_valued value values t (is_told (value_of values (term_as value t)) x (sym known_term ∙ e)).0

  -- from one term to another
  pub has_then : (value : ℕ → ℕ) → n ≤ 8 → {t u : ℕ} → TermByte (λ b. value (b - 128) < open_entry) n t → TermByte (λ b. value (b - 128) < open_entry) n u
      → (Valued values t → Valued values u) → Has (known_in values n) (term_as value t) → Has (known_in values n) (term_as value u)
  has_then value few {t} {u} from to leads has = valued_has value few u to (leads (has_valued value few t from has))

  -- ---- all variables

  pub known_long : n ≤ length values → length (known_in values n) ≡ n
  known_long h = length-map (take n values) told_by ∙ length-take-le n values h

  pub known_agrees : n ≤ length values → (σ : List ℕ) → length σ ≡ n → AgreesTo n values σ → Agrees (known_in values n) σ
  known_agrees h σ long agrees v x e = step (dec_lt v n)
    where
      step : Dec (v < n) → get_or σ v 0 ≡ x
      step (yes l) = let (known, is) = entry_has v x l e in agrees v l known ∙ is
      step (no l) =
          let past : get_or (known_in values n) v (some 0) ≡ some 0 = get_or-eq_default (known_in values n) (some 0) (omega (arith, known_long h)) in
          let same : some 0 ≡ some x = sym past ∙ e in
          let zero_is : 0 ≡ x = cc in
          get_or-eq_default σ 0 (omega arith) ∙ zero_is
