-- How the entries of a book are read and where they lie in a block. `given` is the query's block, where the constants lie.
use mathlib.Core.{List.List, Path.◌≡◌}
use Rattle.std.specs.Prelude.{ℕ, ◌+◌, ◌≤◌, ◌<◌, length, get_or, Result, Ok, Err, OnOk}
use Rattle.semantics.specs.RuleSet.{Term, Pure, PointsTo, Call, Rule}
use Rattle.semantics.specs.declared.Refusal.{Refusal}
use Rattle.semantics.specs.Formats.{named, term_of, term, pure, atom, call, body, rule, constants, rule_set, read_rule_set}
use Rattle.words.specs.Entries.{entries}
use Rattle.block.specs.Layout.{term_as, pure_as, atom_as, call_as, rule_as, rule_set_read, constant_count, fixed_in, constants_in, query_size, rule_size, first_rule, first_arity, pure_size, atom_room, call_size, predicate_count, pure_count, atom_count, atom_size, call_count, call_place, arity_in}
use Rattle.reader.specs.{Answer.result_of, Outcome.Yields, Outcome.valued, Outcome.ranged_byte, Outcome.Within, Outcome.Names}
use Rattle.reader.specs.Layout.{Layout, KeptOutside, single, Any}

-- A count in its range, a byte that names one of n, and a term.
abbrev pub count_layout : (least most : ℕ) → Layout ℕ
count_layout least most = single (ranged_byte 1 2 least most) (λ v. v) (Within least most)

abbrev pub name_layout : ℕ → Layout ℕ
name_layout n = single (named n) (λ v. v) (Names n)

abbrev pub term_layout : List ℕ → ℕ → Layout Term
term_layout given n = single (term (constants_in given) n) (term_as (fixed_in given)) Any

-- The term that a byte names, and how it lies in the block.
abbrev pub as_term : (ℕ → ℕ) → Result ℕ Refusal → Result Term Refusal
as_term value (Ok v) = Ok (term_as value v)
as_term value (Err e) = Err e

abbrev pub Held : (given : List ℕ) (n b : ℕ) → Result ℕ Refusal → Type 0
Held given n b r = (bytes : List ℕ) → Yields (term_of (constants_in given) n b) bytes bytes (as_term (fixed_in given) r)

abbrev pub pure_layout : List ℕ → ℕ → Layout Pure
pure_layout given n = record { read = pure (constants_in given) n; held = pure_as (fixed_in given); Sized = λ block at. Unit {0}; width = pure_size; low = 0 }

-- An atom has at most 4 fields.
abbrev pub atom_layout : List ℕ → ℕ → Layout PointsTo
atom_layout given n = record { read = atom (constants_in given) n; held = atom_as (fixed_in given); Sized = λ block at. get_or block (at + 1) 0 ≤ 4; width = atom_room; low = 0 }

-- The arities that a block has, and what holds of them: 1 to 8 predicates of at most 4 arguments.
abbrev pub arities_in : List ℕ → List ℕ
arities_in block = entries block first_arity (predicate_count block)

pub record Header (block : List ℕ) : Type 0 where
  pub some : 1 ≤ predicate_count block
  pub few : predicate_count block ≤ 8
  pub each : (p : ℕ) → p < predicate_count block → arity_in block p ≤ 4

-- A call names a predicate, which has at most 4 arguments.
pub record CallSized (block : List ℕ) (at : ℕ) : Type 0 where
  pub name : get_or block at 0 < 8
  pub few : arity_in block (get_or block at 0) ≤ 4

abbrev pub call_layout : (arities given : List ℕ) → ℕ → Layout Call
call_layout arities given n = record { read = call arities (constants_in given) n; held = call_as (fixed_in given); Sized = CallSized; width = call_size; low = first_rule }

-- The counts of a rule are in their ranges, and its atoms and calls are sized.
pub record RuleSized (block : List ℕ) (at : ℕ) : Type 0 where
  pub pures : pure_count block at ≤ 8
  pub atoms : atom_count block at ≤ 4
  pub fields : (k : ℕ) → k < atom_count block at → atom_size block at k ≤ 4
  pub calls : call_count block at ≤ 3
  pub called : (k : ℕ) → k < call_count block at → CallSized block (call_place at k)

abbrev pub rule_layout : (arities given : List ℕ) → Layout Rule
rule_layout arities given = record { read = rule arities (constants_in given); held = rule_as (fixed_in given); Sized = RuleSized; width = rule_size; low = first_rule }

-- What the reader of a rule's body promises, where head and number of bound variables lie in the block already.
pub record Body (at n : ℕ) (given before after block block' : List ℕ) (r : Result (Unit {0}) Refusal) : Type 0 where
  pub reads : Yields (body (arities_in block) (constants_in given) (get_or block at 0) (get_or block (at + 1) 0) n) before after (valued r (rule_as (fixed_in given) block' at))
  pub sized : OnOk r (RuleSized block' at)
  pub kept : KeptOutside (at + 2) (at + rule_size) block block'

-- What the reader of the constants promises.
pub record ConstantsFill (before after query query' : List ℕ) (r : Result (Unit {0}) Refusal) : Type 0 where
  pub reads : Yields constants before after (valued r (constants_in query'))
  pub constants_few : OnOk r (constant_count query' ≤ 8)
  pub long : length query' ≡ length query

-- What the reader of the whole rule set promises.
pub record RuleSetFills (before after block block' query' : List ℕ) (r : Result (Unit {0}) Refusal) : Type 0 where
  pub reads : Yields rule_set before after (valued r (rule_set_read query' block'))
  pub header : OnOk r (Header block')
  pub constants_few : OnOk r (constant_count query' ≤ 8)
  pub long : length block' ≡ length block
  pub query_long : length query' ≡ query_size

-- What the reader of a book promises: header and number of constants are in their ranges on a refusal too.
pub record RulesRead (book block block' query' : List ℕ) (r : Result (Unit {0}) Refusal) : Type 0 where
  pub is : read_rule_set book ≡ result_of r (rule_set_read query' block')
  pub header : Header block'
  pub constants_few : constant_count query' ≤ 8
  pub long : length block' ≡ length block
  pub query_long : length query' ≡ query_size
