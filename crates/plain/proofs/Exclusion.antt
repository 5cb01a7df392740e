-- Two rules of one predicate exclude each other exactly if they do not overlap: arguments that both allow, with the bound values of each, are
-- values of all variables together, and the other way round.
use mathlib.Core.{Bool.Bool, Bool.true, Bool.false, Bool.false≢true, Path.◌≡◌, Path.refl, Path.sym, Path.ap, Path.◌∙◌, Logic.◌⊎◌, Logic.inl, Logic.inr, Logic.⊎_elim, Logic.◌↔◌, List.List, List.◌++◌}
use Prim.Native.Nat.{ℕ, ◌+◌, ◌-◌, ◌≤◌, ◌<◌}
use native.Mathlib.{Omega.arith, Decide.dec_lt}
use borrow.Author.Tests.{lt-ltb, le-ltb}
use lib.{ListN.length, ListN.get_or, ListN.get_or-append, Dec.ltb}
use Rattle.semantics.specs.{RuleSet.arity, Plain.Allows, Plain.Exclude}
use Rattle.words.specs.Entries.{tabulate}
use Rattle.words.proofs.Tabulate.{tabulate-length, tabulate_at, tabulate_same, tabulate_add}
use Rattle.block.specs.Layout.{rule_as, rule_set_read, fixed_in, constants_in, head_in, bound_in, head_arity, pure_left, pure_right}
use Rattle.block.specs.Ready.{FormedRule, variables_in}
use Rattle.block.proofs.RuleAs.{head_arity_is}
use Rattle.plain.specs.Classes.{seat, entry_by, SideMet, Overlaps}
use Rattle.plain.specs.Opposed.{Shared, Opposed, Parted}
use Rattle.plain.specs.Plain.{RulesReadable, RulePlace}
use Rattle.plain.proofs.{Seats.seat_shared, Seats.seat_own, Seats.entry_shared, Seats.entry_fixed, Sides.Seated, Sides.side_met, Sides.met_side}

-- ---- one rule

module _ (value : ℕ → ℕ) {Fixed : ℕ → Type 0} (rules : List ℕ) (at shared : ℕ) (f : FormedRule Fixed rules at) (σ : ℕ → ℕ) (many : head_arity rules at ≤ shared) where
  abbrev value_at : ℕ → ℕ
  value_at v = σ (seat shared v)

  -- the values of its variables, in one list
  values_are : tabulate (head_arity rules at) σ ++ tabulate (bound_in rules at) (λ i. value_at (head_arity rules at + i)) ≡ tabulate (variables_in rules at) value_at
  values_are =
      ap (λ (xs : List ℕ). xs ++ tabulate (bound_in rules at) (λ i. value_at (head_arity rules at + i)))
      (tabulate_same (head_arity rules at) σ value_at (λ v h. ap σ (sym (seat_shared shared v (omega arith)))))
      ∙ sym (tabulate_add (head_arity rules at) (bound_in rules at) value_at)

  -- the first of them are arguments that it allows
  pub allows_first : SideMet value rules at shared σ → Allows (rule_as value rules at) (tabulate (head_arity rules at) σ)
  allows_first met = record {
    bound = tabulate (bound_in rules at) (λ i. value_at (head_arity rules at + i));
    bound_counted = tabulate-length (bound_in rules at) (λ i. value_at (head_arity rules at + i));
    meets = rw values_are
        (met_side value rules at shared f σ (tabulate (variables_in rules at) value_at) (λ v h. sym (tabulate_at (variables_in rules at) value_at 0 v h)) met);
  }

-- ---- values of both

-- the first rule's in the first eight places, the second rule's from there on
abbrev besides : List ℕ → List ℕ → ℕ → ℕ
besides xs ys v = elim (ltb v 8) [ true ↦ get_or xs v 0 | false ↦ get_or ys (v - 8) 0 ]

besides_first : (xs ys : List ℕ) (v : ℕ) → v < 8 → besides xs ys v ≡ get_or xs v 0
besides_first xs ys v h = rw (lt-ltb v 8 h, besides) refl

besides_second : (xs ys : List ℕ) (v : ℕ) → besides xs ys (v + 8) ≡ get_or ys v 0
besides_second xs ys v = rw (le-ltb (v + 8) 8 (omega arith), besides) (ap (λ (i : ℕ). get_or ys i 0) (omega arith))

module _ (value : ℕ → ℕ) {Fixed : ℕ → Type 0} (rules : List ℕ) (at : ℕ) (f : FormedRule Fixed rules at) (arguments : List ℕ) (counted : length arguments ≡ head_arity rules at)
    (a : Allows (rule_as value rules at) arguments) (others : List ℕ) where
  first_seated : Seated rules at 8 (besides (arguments ++ a.bound) others) (arguments ++ a.bound)
  first_seated v h =
      ap (besides (arguments ++ a.bound) others) (seat_shared 8 v (omega (arith, f.ready.variables_few)))
      ∙ besides_first (arguments ++ a.bound) others v (omega (arith, f.ready.variables_few))

  -- the first rule's conditions are met whatever the other has
  pub first_met : SideMet value rules at 8 (besides (arguments ++ a.bound) others)
  first_met = side_met value rules at 8 f (besides (arguments ++ a.bound) others) (arguments ++ a.bound) first_seated a.meets

module _ (value : ℕ → ℕ) {Fixed : ℕ → Type 0} (rules : List ℕ) (at other : ℕ) (f : FormedRule Fixed rules at) (o : FormedRule Fixed rules other)
    (same : head_in rules at ≡ head_in rules other) where
  same_arity : head_arity rules at ≡ head_arity rules other
  same_arity = ap (λ (p : ℕ). get_or rules (8 + p) 0) same

  module _ (arguments : List ℕ) (counted : length arguments ≡ head_arity rules at) (a : Allows (rule_as value rules at) arguments) (b : Allows (rule_as value rules other) arguments) where
    second_seated : Seated rules other (head_arity rules at) (besides (arguments ++ a.bound) (arguments ++ b.bound)) (arguments ++ b.bound)
    second_seated v h = step (dec_lt v (head_arity rules at))
      where
        step : Dec (v < head_arity rules at) → besides (arguments ++ a.bound) (arguments ++ b.bound) (seat (head_arity rules at) v) ≡ get_or (arguments ++ b.bound) v 0
        step (yes l) =
            ap (besides (arguments ++ a.bound) (arguments ++ b.bound)) (seat_shared (head_arity rules at) v l)
            ∙ besides_first (arguments ++ a.bound) (arguments ++ b.bound) v (omega (arith, f.ready.head_arity_lem))
            ∙ get_or-append arguments a.bound 0 v (omega arith) ∙ sym (get_or-append arguments b.bound 0 v (omega arith))
        step (no l) =
            ap (besides (arguments ++ a.bound) (arguments ++ b.bound)) (seat_own (head_arity rules at) v (omega arith))
            ∙ besides_second (arguments ++ a.bound) (arguments ++ b.bound) v

    pub both_overlap : Overlaps value rules at other
    both_overlap = record {
      σ = besides (arguments ++ a.bound) (arguments ++ b.bound);
      first = first_met value rules at f arguments counted a (arguments ++ b.bound);
      second = side_met value rules other (head_arity rules at) o (besides (arguments ++ a.bound) (arguments ++ b.bound)) (arguments ++ b.bound) second_seated b.meets;
    }

-- ---- opposed conditions

-- a shared term has one value in both rules
one_value : (value σ : ℕ → ℕ) (arity t : ℕ) → arity ≤ 4 → Shared arity t → entry_by value 8 σ t ≡ entry_by value arity σ t
one_value value σ arity t few =
    ⊎_elim (λ l. sym (entry_shared value 8 σ t (omega arith) (omega arith)) ∙ entry_shared value arity σ t (omega arith) l)
    (λ g. sym (entry_fixed value 8 σ t g) ∙ entry_fixed value arity σ t g)

-- two pairs of the same numbers, in either order, are equal or unequal alike
same_pair : {x y u v : ℕ} → ((x ≡ u) × (y ≡ v)) ⊎ ((x ≡ v) × (y ≡ u)) → (x ≡ y) ↔ (u ≡ v)
same_pair =
    ⊎_elim (λ p. (λ e. sym p.0 ∙ e ∙ p.1, λ e. p.0 ∙ e ∙ sym p.1))
    (λ p. (λ e. sym p.1 ∙ sym e ∙ p.0, λ e. p.0 ∙ sym e ∙ sym p.1))

opposed_apart : (value : ℕ → ℕ) (rules : List ℕ) (at other k : ℕ) → head_arity rules at ≤ 4 → Opposed rules at other k → ¬ Overlaps value rules at other
opposed_apart value rules at other k few o w =
    ⊎_elim (λ e. w.second.unequals k o.some_other e.1 (alike.0 (w.first.equals k o.some e.0)))
    (λ e. w.first.unequals k o.some e.0 (alike.1 (w.second.equals k o.some_other e.1))) o.kinds
  where
    first : ℕ → ℕ
    first t = entry_by value 8 w.σ t

    second : ℕ → ℕ
    second t = entry_by value (head_arity rules at) w.σ t

    left : first (pure_left rules at k) ≡ second (pure_left rules at k)
    left = one_value value w.σ (head_arity rules at) (pure_left rules at k) few o.left_shared

    right : first (pure_right rules at k) ≡ second (pure_right rules at k)
    right = one_value value w.σ (head_arity rules at) (pure_right rules at k) few o.right_shared

    alike : (first (pure_left rules at k) ≡ first (pure_right rules at k)) ↔ (second (pure_left rules other k) ≡ second (pure_right rules other k))
    alike =
        same_pair
        (⊎_elim (λ t. inl (left ∙ ap second t.0, right ∙ ap second t.1)) (λ t. inr (left ∙ ap second t.0, right ∙ ap second t.1)) o.terms)

-- ---- exclusion

module _ {given rules : List ℕ} (read : RulesReadable given rules) {at other : ℕ} (p : RulePlace given rules at) (q : RulePlace given rules other) where
  abbrev Excluded : Type 0
  Excluded = Exclude (rule_set_read given rules) (rule_as (fixed_in given) rules at) (rule_as (fixed_in given) rules other)

  arity_of : arity (rule_set_read given rules) (head_in rules at) ≡ head_arity rules at
  arity_of = head_arity_is (fixed_in given) (constants_in given) rules read.formed at p.well

  -- rules that do not overlap
  pub excluded : ¬ Overlaps (fixed_in given) rules at other → Excluded
  excluded n same arguments counted a b = n (both_overlap (fixed_in given) rules at other p.formed q.formed same arguments (counted ∙ arity_of) a b)

  -- rules that do
  pub not_excluded : head_in rules at ≡ head_in rules other → Overlaps (fixed_in given) rules at other → ¬ Excluded
  not_excluded same w e =
      let arguments : List ℕ = tabulate (head_arity rules at) w.σ in
      let second : Allows (rule_as (fixed_in given) rules other) (tabulate (head_arity rules other) w.σ) =
      allows_first (fixed_in given) rules other (head_arity rules at) q.formed w.σ (omega (arith, same_arity (fixed_in given) rules at other p.formed q.formed same)) w.second in
      e same arguments (tabulate-length (head_arity rules at) w.σ ∙ sym arity_of)
      (allows_first (fixed_in given) rules at 8 p.formed w.σ (omega (arith, p.formed.ready.head_arity_lem)) w.first)
      (rw (same_arity (fixed_in given) rules at other p.formed q.formed same) second)

  -- a rule that nothing meets
  pub unmet_excluded : ((σ : ℕ → ℕ) → ¬ SideMet (fixed_in given) rules at 8 σ) → Excluded
  unmet_excluded never same arguments counted a b =
      never (besides (arguments ++ a.bound) arguments) (first_met (fixed_in given) rules at p.formed arguments (counted ∙ arity_of) a arguments)

  -- rules that are told apart at a glance, and others
  pub parted_excluded : {told : Bool} → Parted rules at other told → told ≡ true → Excluded
  parted_excluded (Parted.heads t n) e = λ same. absurd (n same)
  parted_excluded (Parted.opposed t k o) e = excluded (opposed_apart (fixed_in given) rules at other k p.formed.ready.head_arity_lem o)
  parted_excluded (Parted.unknown f same) e = absurd (false≢true (sym f ∙ e))

  pub not_parted : {told : Bool} → Parted rules at other told → told ≡ false → head_in rules at ≡ head_in rules other
  not_parted (Parted.heads t n) e = absurd (false≢true (sym e ∙ t))
  not_parted (Parted.opposed t k o) e = absurd (false≢true (sym e ∙ t))
  not_parted (Parted.unknown f same) e = same
