-- Terms of the block under the values σ of a rule's variables, whatever the numbers of fixed values stand for: one term, terms in a row, a
-- record that an atom asks for, a pure condition.
use mathlib.Core.{Bool.Bool, Bool.not, Path.◌≡◌, Path.refl, Path.sym, Path.ap, Path.ap₂, Path.◌∙◌, List.List, List.map, Logic.◌≢◌, Logic.◌↔◌}
use Prim.Native.Nat.{ℕ, ◌+◌, ◌-◌, ◌≤◌, ◌<◌}
use native.Mathlib.Omega.{arith}
use lib.{ListN.length, ListN.get_or, ListN.get_or-eq_default, Dec.eqb}
use borrow.Author.Tests.{eq-eqb, ne_eqb, lt-ltb, le-ltb}
use Rattle.semantics.specs.{Heap.Record, Tree.value_of, Tree.values_of, Tree.Compare, Tree.Meets, Tree.asked}
use Rattle.words.specs.{Entries.tabulate, Entries.entries, Told.Told}
use Rattle.words.proofs.{Answers.told_as, Answers.told_equal, Answers.told_unequal, Tabulate.tabulate-length, Tabulate.tabulate_at, Tabulate.tabulate_same, Tabulate.tabulate-map}
use Rattle.block.specs.Layout.{term_as, kind_in, pure_as, atom_as, record_in, pure_place, pure_kind, pure_left, pure_right, atom_place, atom_address, atom_size, atom_field, record_place, record_address, record_size, record_field}

-- a variable's byte, and a fixed value's
pub term_variable : (value : ℕ → ℕ) (σ : List ℕ) (b : ℕ) → b < 128 → get_or σ b 0 ≡ value_of σ (term_as value b)
term_variable value σ b h = rw (lt-ltb b 128 h, value_of) refl

pub term_fixed : (value : ℕ → ℕ) (σ : List ℕ) (b : ℕ) → 128 ≤ b → value (b - 128) ≡ value_of σ (term_as value b)
term_fixed value σ b h = rw (le-ltb b 128 h, value_of) refl

-- ---- terms in a row

module _ (value : ℕ → ℕ) (rules σ : List ℕ) (at n : ℕ) where
  -- the value of term j, and those of all n
  abbrev pub term_at : ℕ → ℕ
  term_at j = value_of σ (term_as value (get_or rules (at + j) 0))

  abbrev pub terms_at : List ℕ
  terms_at = values_of σ (map (term_as value) (entries rules at n))

  pub terms_are : terms_at ≡ tabulate n term_at
  terms_are = ap (values_of σ) (tabulate-map (term_as value) n (λ j. get_or rules (at + j) 0)) ∙ tabulate-map (value_of σ) n (λ j. term_as value (get_or rules (at + j) 0))

  pub fields_are : (records : List ℕ) (place : ℕ) → (entries records place n ≡ terms_at) ↔ ((j : ℕ) → j < n → get_or records (place + j) 0 ≡ term_at j)
  fields_are records place = (
    (λ e j h. sym (tabulate_at n (λ i. get_or records (place + i) 0) 0 j h) ∙ ap (λ (l : List ℕ). get_or l j 0) (e ∙ terms_are) ∙ tabulate_at n term_at 0 j h),
    λ h. tabulate_same n (λ j. get_or records (place + j) 0) term_at h ∙ sym terms_are,
  )

  -- the value of argument j of a call, and 0 past the last
  pub argument_at : (j : ℕ) → j < n → term_at j ≡ get_or terms_at j 0
  argument_at j h = sym (ap (λ (l : List ℕ). get_or l j 0) terms_are ∙ tabulate_at n term_at 0 j h)

  pub argument_past : (j : ℕ) → n ≤ j → 0 ≡ get_or terms_at j 0
  argument_past j h = sym (get_or-eq_default terms_at 0 (omega (arith, ap length terms_are, tabulate-length n term_at)))

-- ---- a record

module _ (value : ℕ → ℕ) (rules : List ℕ) (rule g : ℕ) (σ records : List ℕ) (i : ℕ) where
  -- record i is as atom g asks
  abbrev AsAsked : Type 0
  AsAsked = record_in records (record_place i) ≡ asked σ (atom_as value rules (atom_place rule g))

  pub address-asked : AsAsked → record_address records i ≡ get_or σ (atom_address rules rule g) 0
  address-asked e = ap (λ (r : Record). r.address) e

  pub size_asked : AsAsked → record_size records i ≡ atom_size rules rule g
  size_asked e =
      sym (tabulate-length (record_size records i) (record_field records i))
      ∙ ap (λ (r : Record). length r.fields) e ∙ ap length (terms_are value rules σ (atom_place rule g + 2) (atom_size rules rule g))
      ∙ tabulate-length (atom_size rules rule g) (λ j. value_of σ (term_as value (atom_field rules rule g j)))

  pub record_told : {r : Bool} → record_address records i ≡ get_or σ (atom_address rules rule g) 0 → record_size records i ≡ atom_size rules rule g
      → Told r (entries records (record_place i + 2) (atom_size rules rule g) ≡ terms_at value rules σ (atom_place rule g + 2) (atom_size rules rule g)) → Told r AsAsked
  record_told a c t =
      told_as
      (λ f. ap₂ (λ (x : ℕ) (xs : List ℕ). record { address = x; fields = xs }) a (ap (entries records (record_place i + 2)) c ∙ f))
      (λ q. ap (entries records (record_place i + 2)) (sym c) ∙ ap (λ (x : Record). x.fields) q)
      t

-- ---- a pure condition

module _ (value : ℕ → ℕ) (rules : List ℕ) (rule k : ℕ) (σ : List ℕ) {kind a b : ℕ} (is-kind : kind ≡ pure_kind rules rule k)
    (is-left : a ≡ value_of σ (term_as value (pure_left rules rule k))) (is_right : b ≡ value_of σ (term_as value (pure_right rules rule k))) where
  pub pure_equal : kind ≡ 0 → Told (eqb a b) (Meets σ (pure_as value rules (pure_place rule k)))
  pure_equal e =
      let compares : Compare (kind_in (pure_kind rules rule k)) a b ≡ (a ≡ b) = rw (eq-eqb (pure_kind rules rule k) 0 (sym is-kind ∙ e), Compare) refl in
      rw (← is-left, ← is_right, compares) (told_equal a b (λ s. s) (λ s. s))

  pub pure_unequal : kind ≢ 0 → Told (not (eqb a b)) (Meets σ (pure_as value rules (pure_place rule k)))
  pure_unequal n =
      let compares : Compare (kind_in (pure_kind rules rule k)) a b ≡ (a ≢ b) = rw (ne_eqb (pure_kind rules rule k) 0 (λ e. n (is-kind ∙ e)), Compare) refl in
      rw (← is-left, ← is_right, compares) (told_unequal a b)
