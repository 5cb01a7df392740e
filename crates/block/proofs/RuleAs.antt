-- Rules of the block, whatever the numbers of their fixed values stand for: a rule by its number is that rule of the rule set, its counts and
-- terms are those of the rule, and what well-formedness says of it is said of its bytes.
use mathlib.Core.List.Memᴰ
use mathlib.Core.{Path.◌≡◌, Path.ap, Path.◌∙◌, Logic.◌⊎◌, Logic.inl, Logic.inr, Logic.⊎_elim, List.List, List.map}
use Prim.Native.Nat.{ℕ, ◌+◌, ◌-◌, ◌≤◌, ◌<◌}
use native.Mathlib.{Omega.arith, Decide.dec_lt}
use borrow.Author.Tests.{lt-ltb, le-ltb}
use lib.ListN.{length, get_or, length-map}
use Rattle.semantics.specs.Lists.{◌among◌}
use Rattle.semantics.specs.RuleSet.{Rule, arity, variables, blank_rule, rule_of, fixed_values, InScope, WellFormed, WellFormedRule}
use Rattle.words.specs.Entries.{entries}
use Rattle.words.proofs.Tabulate.{tabulate-length, tabulate_at, tabulate_in, tabulate_out}
use Rattle.block.specs.Layout.{term_as, pure_as, atom_as, call_as, rule_as, rule_set_as, predicate_count, rule_count, arity_in, rule_place, head_in, bound_in, pure_count, atom_count, call_count, pure_place, atom_place, call_place, pure_left, pure_right, atom_size, atom_field, call_predicate, call_term, head_arity}
use Rattle.block.specs.Ready.{TermByte, variables_in, RuleBytes}

module _ (value : ℕ → ℕ) (constants rules : List ℕ) where
  pub predicates_are : length (rule_set_as value constants rules).arities ≡ predicate_count rules
  unfolding rule_set_as
  predicates_are = tabulate-length (predicate_count rules) (λ i. arity_in rules i)

  pub rules_are : length (rule_set_as value constants rules).rules ≡ rule_count rules
  unfolding rule_set_as
  rules_are = tabulate-length (rule_count rules) (λ r. rule_as value rules (rule_place r))

  -- a predicate's arity is its byte
  pub arity_is : (p : ℕ) → p < predicate_count rules → arity (rule_set_as value constants rules) p ≡ arity_in rules p
  unfolding rule_set_as
  arity_is p h = tabulate_at (predicate_count rules) (λ i. arity_in rules i) 0 p h

  pub rule_listed : (r : ℕ) → r < rule_count rules → rule_as value rules (rule_place r) among (rule_set_as value constants rules).rules
  unfolding rule_set_as
  rule_listed r h = tabulate_in (rule_count rules) (λ i. rule_as value rules (rule_place i)) r h

  pub rule_numbered : (r : ℕ) → r < rule_count rules → rule_of (rule_set_as value constants rules) r ≡ rule_as value rules (rule_place r)
  unfolding rule_set_as
  rule_numbered r h = tabulate_at (rule_count rules) (λ i. rule_as value rules (rule_place i)) blank_rule r h

  -- every rule of the rule set has a number
  pub rule-number : (rule : Rule) → rule among (rule_set_as value constants rules).rules → (r : ℕ) × (r < rule_count rules) × (rule ≡ rule_as value rules (rule_place r))
  unfolding rule_set_as
  rule-number rule m = tabulate_out (rule_count rules) (λ i. rule_as value rules (rule_place i)) rule m

module _ (value : ℕ → ℕ) (rules : List ℕ) where
  -- a term of a list of terms in the block
  pub term_listed : (from n j : ℕ) → j < n → term_as value (get_or rules (from + j) 0) among map (term_as value) (entries rules from n)
  term_listed from n j h = Memᴰ.map (term_as value) (tabulate_in n (λ i. get_or rules (from + i) 0) j h)

  -- a list of terms in the block has as many as its count says
  pub terms_counted : (from n : ℕ) → length (map (term_as value) (entries rules from n)) ≡ n
  terms_counted from n = length-map (entries rules from n) (term_as value) ∙ tabulate-length n (λ i. get_or rules (from + i) 0)

-- a term's byte: a variable's number, or one of a fixed value
term-byte : (value : ℕ → ℕ) (values : List ℕ) (b n : ℕ) → InScope values n (term_as value b) → (b < n) ⊎ ((128 ≤ b) × (value (b - 128) among values))
term-byte value values b n h = step (dec_lt b 128)
  where
    step : Dec (b < 128) → (b < n) ⊎ ((128 ≤ b) × (value (b - 128) among values))
    step (yes l) = inl (rw (lt-ltb b 128 l, InScope) at h)
    step (no l) = inr (omega arith, rw (le-ltb b 128 (omega arith), InScope) at h)

-- A rule of a well-formed rule set.
module _ (value : ℕ → ℕ) (constants rules : List ℕ) (formed : WellFormed (rule_set_as value constants rules)) where
  pub arity_few : (p : ℕ) → p < predicate_count rules → arity_in rules p ≤ 4
  arity_few p h = omega (arith, arity_is value constants rules p h, formed.arguments_few p)

  pub predicates_few : predicate_count rules ≤ 8
  predicates_few = omega (arith, predicates_are value constants rules, formed.predicates_few)

  module _ (at : ℕ) (w : WellFormedRule (rule_set_as value constants rules) (rule_as value rules at)) where
    pub head_named : head_in rules at < predicate_count rules
    head_named = omega (arith, predicates_are value constants rules, w.head_named)

    pub head_arity_is : arity (rule_set_as value constants rules) (head_in rules at) ≡ head_arity rules at
    head_arity_is = arity_is value constants rules (head_in rules at) head_named

    pub variables_are : variables (rule_set_as value constants rules) (rule_as value rules at) ≡ variables_in rules at
    variables_are = ap (λ (a : ℕ). a + bound_in rules at) head_arity_is

    pure_listed : (k : ℕ) → k < pure_count rules at → pure_as value rules (pure_place at k) among (rule_as value rules at).pures
    pure_listed k h = tabulate_in (pure_count rules at) (λ i. pure_as value rules (pure_place at i)) k h

    atom_listed : (k : ℕ) → k < atom_count rules at → atom_as value rules (atom_place at k) among (rule_as value rules at).points_to
    atom_listed k h = tabulate_in (atom_count rules at) (λ i. atom_as value rules (atom_place at i)) k h

    call_listed : (k : ℕ) → k < call_count rules at → call_as value rules (call_place at k) among (rule_as value rules at).calls
    call_listed k h = tabulate_in (call_count rules at) (λ i. call_as value rules (call_place at i)) k h

    pub call_named : (k : ℕ) → k < call_count rules at → call_predicate rules at k < predicate_count rules
    call_named k h = omega (arith, predicates_are value constants rules, w.calls_named (call_as value rules (call_place at k)) (call_listed k h))

    module _ {Fixed : ℕ → Type 0} (is_fixed : (b : ℕ) → 128 ≤ b → value (b - 128) among fixed_values (rule_set_as value constants rules) → Fixed b) where
      scoped_byte : (b : ℕ) → InScope (fixed_values (rule_set_as value constants rules)) (variables (rule_set_as value constants rules) (rule_as value rules at)) (term_as value b)
          → TermByte Fixed (variables_in rules at) b
      scoped_byte b h =
          ⊎_elim inl (λ f. inr (f.0, is_fixed b f.0 f.1))
          (term-byte value (fixed_values (rule_set_as value constants rules)) b (variables_in rules at) (rw variables_are at h))

      pub ready_rule : RuleBytes Fixed rules at
      ready_rule = record {
        head_named = head_named;
        head_few = omega (arith, head_named, predicates_few);
        head_arity_lem = arity_few (head_in rules at) head_named;
        variables_few = omega (arith, variables_are, w.variables_few);
        pures_few = omega (arith, tabulate-length (pure_count rules at) (λ i. pure_as value rules (pure_place at i)), w.pures_few);
        atoms_few = omega (arith, tabulate-length (atom_count rules at) (λ i. atom_as value rules (atom_place at i)), w.atoms_few);
        calls_few = omega (arith, tabulate-length (call_count rules at) (λ i. call_as value rules (call_place at i)), w.calls_few);
        pure_left_lem = λ k h. scoped_byte (pure_left rules at k) (w.pures_left (pure_as value rules (pure_place at k)) (pure_listed k h));
        pure_right_lem = λ k h. scoped_byte (pure_right rules at k) (w.pures_right (pure_as value rules (pure_place at k)) (pure_listed k h));
        atom_address_lem = λ k h. omega (arith, variables_are, w.atoms_address (atom_as value rules (atom_place at k)) (atom_listed k h));
        atom_count_lem = λ k h. omega (arith, terms_counted value rules (atom_place at k + 2) (atom_size rules at k), w.fields_few (atom_as value rules (atom_place at k)) (atom_listed k h));
        atom_field_lem = λ k h j l. scoped_byte (atom_field rules at k j)
            (w.atoms_fields (atom_as value rules (atom_place at k)) (atom_listed k h) (term_as value (atom_field rules at k j))
            (term_listed value rules (atom_place at k + 2) (atom_size rules at k) j l));
        call_named = call_named;
        call_few = λ k h. omega (arith, call_named k h, predicates_few);
        call_arity_lem = λ k h. arity_few (call_predicate rules at k) (call_named k h);
        call_term_lem = λ k h j l. scoped_byte (call_term rules at k j)
            (w.calls_scoped (call_as value rules (call_place at k)) (call_listed k h) (term_as value (call_term rules at k j))
            (term_listed value rules (call_place at k + 1) (arity_in rules (call_predicate rules at k)) j l));
      }
