-- Fixed terms by their bytes. A byte names a fixed term exactly if it is reached byte by byte: links of the rule are links of the block.
use mathlib.Core.List.Memᴰ
use mathlib.Core.{Path.◌≡◌, Path.refl, Path.sym, Path.ap, Path.◌∙◌, Logic.◌↔◌, List.List, List.[], List.◌∷◌}
use Prim.Native.Nat.{ℕ, ◌+◌, ◌-◌, ◌≤◌, ◌<◌}
use native.Mathlib.{Omega.arith, Decide.dec_lt}
use borrow.Author.Tests.{eq-eqb, lt-ltb, le-ltb}
use lib.ListN.{length}
use Rattle.semantics.specs.RuleSet.{Term, var, fixed, Kind, equal, arity}
use Rattle.semantics.specs.{Lists.◌among◌, Plain.equals, Plain.Fixed, Plain.AllFixed, Plain.Consumes}
use Rattle.words.proofs.Tabulate.{tabulate_in, tabulate_out, tabulate-length}
use Rattle.block.specs.Layout.{term_as, kind_in, pure_as, atom_as, call_as, rule_as, rule_set_read, fixed_in, constants_in, head_in, head_arity, pure_count, pure_place, pure_kind, pure_left, pure_right, atom_count, atom_place, atom_address, atom_size, atom_field, call_count, call_place}
use Rattle.block.proofs.RuleAs.{term_listed, head_arity_is, variables_are}
use Rattle.finding.proofs.Found.{numbered_pure, numbered_field}
use Rattle.plain.specs.{Fixing.FixedByte, Fixing.AllFixedIn, Plain.RulesReadable, Plain.RulePlace, Plain.ConsumesIn}

-- ---- a byte and its term

byte_variable : (value : ℕ → ℕ) (t : ℕ) → t < 128 → term_as value t ≡ var t
byte_variable value t h = rw (lt-ltb t 128 h, term_as) refl

byte-value : (value : ℕ → ℕ) (t : ℕ) → 128 ≤ t → term_as value t ≡ fixed (value (t - 128))
byte-value value t h = rw (le-ltb t 128 h, term_as) refl

-- What the bytes say of a term.
abbrev FixedTerm : List ℕ → ℕ → Term → Type 0
FixedTerm rules at (var v) = FixedByte rules at v
FixedTerm rules at (fixed x) = Unit {0}

module _ (value : ℕ → ℕ) (rules : List ℕ) (at t : ℕ) where
  byte-term : FixedByte rules at t → FixedTerm rules at (term_as value t)
  byte-term f = step (dec_lt t 128)
    where
      step : Dec (t < 128) → FixedTerm rules at (term_as value t)
      step (yes h) = rw (byte_variable value t h) f
      step (no n) = rw (byte-value value t (omega arith)) tt

  term-byte : FixedTerm rules at (term_as value t) → FixedByte rules at t
  term-byte f = step (dec_lt t 128)
    where
      step : Dec (t < 128) → FixedByte rules at t
      step (yes h) = rw (byte_variable value t h) at f
      step (no n) = FixedByte.fixed_value {t = t} (omega arith)

module _ {given rules : List ℕ} (read : RulesReadable given rules) {at : ℕ} (p : RulePlace given rules at) where
  abbrev value : ℕ → ℕ
  value = fixed_in given

  abbrev FixedHere : Term → Type 0
  FixedHere t = Fixed (rule_set_read given rules) (rule_as value rules at) t

  arity_here : arity (rule_set_read given rules) (head_in rules at) ≡ head_arity rules at
  arity_here = head_arity_is value (constants_in given) rules read.formed at p.well

  -- ---- from bytes to terms

  equality_listed : (k : ℕ) → k < pure_count rules at → pure_kind rules at k ≡ 0
      → equals (term_as value (pure_left rules at k)) (term_as value (pure_right rules at k)) among (rule_as value rules at).pures
  equality_listed k h e =
      let is_equal : kind_in (pure_kind rules at k) ≡ equal = rw (eq-eqb (pure_kind rules at k) 0 e, kind_in) refl in
      Memᴰ.cast
      (sym (ap (λ (kind : Kind). record { kind = kind; left = term_as value (pure_left rules at k); right = term_as value (pure_right rules at k) }) is_equal))
      (tabulate_in (pure_count rules at) (λ i. pure_as value rules (pure_place at i)) k h)

  byte_fixed : (t : ℕ) → FixedByte rules at t → FixedHere (term_as value t)
  byte_fixed t (FixedByte.fixed_value h) = rw (byte-value value t h) Fixed.fixed_value
  byte_fixed t (FixedByte.of_head h) = rw (byte_variable value t (omega (arith, p.formed.ready.head_arity_lem))) (Fixed.of_head {v = t} (omega (arith, arity_here)))
  byte_fixed t (FixedByte.to_right k h e f) = Fixed.to_right (equality_listed k h e) (byte_fixed (pure_left rules at k) f)
  byte_fixed t (FixedByte.to_left k h e f) = Fixed.to_left (equality_listed k h e) (byte_fixed (pure_right rules at k) f)
  byte_fixed t (FixedByte.of_field g j h l f) =
      Fixed.of_field (tabulate_in (atom_count rules at) (λ i. atom_as value rules (atom_place at i)) g h) (term_listed value rules (atom_place at g + 2) (atom_size rules at g) j l)
      (rw (byte_variable value (atom_address rules at g) (omega (arith, p.formed.ready.variables_few, p.formed.ready.atom_address_lem g h))) at (byte_fixed (atom_address rules at g) f))

  -- ---- and back

  fixed_term : (t : Term) → FixedHere t → FixedTerm rules at t
  fixed_term t Fixed.fixed_value = tt
  fixed_term t (Fixed.of_head {v = v} h) = FixedByte.of_head {t = v} (omega (arith, arity_here, h))
  fixed_term t (Fixed.to_right {left = l} {right = r} m f) =
      let (k, h, e, is-left, is_right) = numbered_pure value rules at l r m in
      rw is_right (byte-term value rules at (pure_right rules at k) (FixedByte.to_right k h e (term-byte value rules at (pure_left rules at k) (rw is-left at (fixed_term l f)))))
  fixed_term t (Fixed.to_left {left = l} {right = r} m f) =
      let (k, h, e, is-left, is_right) = numbered_pure value rules at l r m in
      rw is-left (byte-term value rules at (pure_left rules at k) (FixedByte.to_left k h e (term-byte value rules at (pure_right rules at k) (rw is_right at (fixed_term r f)))))
  fixed_term t (Fixed.of_field {atom = a} m l f) =
      let (g, h, e) = tabulate_out (atom_count rules at) (λ i. atom_as value rules (atom_place at i)) a m in
      let (j, few, is) = numbered_field value rules at g t (rw e at l) in
      rw (← is) (byte-term value rules at (atom_field rules at g j) (FixedByte.of_field g j h few (rw e at (fixed_term (var a.address) f))))

  -- ---- all variables

  pub all_fixed_here : AllFixedIn rules at ↔ AllFixed (rule_set_read given rules) (rule_as value rules at)
  all_fixed_here =
      let same = variables_are value (constants_in given) rules read.formed at p.well in (
        λ all v h. rw (byte_variable value v (omega (arith, p.formed.ready.variables_few, same))) at (byte_fixed v (all v (omega (arith, same)))),
        λ all v h. fixed_term (var v) (all v (omega (arith, same))),
      )

-- ---- counts

empty_long : {A : Type 0} (xs : List A) → length xs ≡ 0 → xs ≡ []
empty_long [] e = refl
empty_long (x ∷ xs) e = absurd (omega arith)

long_empty : {A : Type 0} (xs : List A) → xs ≡ [] → length xs ≡ 0
long_empty {A} xs e = ap (λ (l : List A). length l) e

pub consumes_here : (value : ℕ → ℕ) (rules : List ℕ) (at : ℕ) → ConsumesIn rules at ↔ Consumes (rule_as value rules at)
consumes_here value rules at =
    let calls = tabulate-length (call_count rules at) (λ i. call_as value rules (call_place at i)) in
    let atoms = tabulate-length (atom_count rules at) (λ i. atom_as value rules (atom_place at i)) in (
      λ h some-calls no-atoms. h (λ e. some-calls (empty_long (rule_as value rules at).calls (calls ∙ e))) (sym atoms ∙ long_empty (rule_as value rules at).points_to no-atoms),
      λ h some-calls no-atoms. h (λ e. some-calls (sym calls ∙ long_empty (rule_as value rules at).calls e)) (empty_long (rule_as value rules at).points_to (atoms ∙ no-atoms)),
    )
