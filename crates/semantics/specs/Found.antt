-- The values of a rule's variables, found from the head's arguments and the heap: what the function that looks for them promises.
use mathlib.Core.{Option.Option, Option.some, List.List, List.◌++◌, Path.◌≡◌}
use Rattle.std.specs.Prelude.{ℕ, ◌+◌, ◌<◌, length, get_or}
use Rattle.semantics.specs.RuleSet.{Term, var, fixed, PointsTo, Rule, RuleSet}
use Rattle.semantics.specs.{Lists.◌among◌, Heap.Heap, Heap.blank, Tree.Applies, Plain.equals}

-- The value of each variable, if it is known. A variable past the end has 0, as in `value_of`.
abbrev pub Known : Type 0
Known = List (Option ℕ)

abbrev pub known_of : Known → Term → Option ℕ
known_of env (var v) = get_or env v (some 0)
known_of env (fixed x) = some x

-- The term has a known value.
abbrev pub Has : Known → Term → Type 0
Has env term = (x : ℕ) × (known_of env term ≡ some x)

-- The list has every value that is known, at its variable.
abbrev pub Agrees : Known → List ℕ → Type 0
Agrees env σ = (v x : ℕ) → get_or env v (some 0) ≡ some x → get_or σ v 0 ≡ x

-- All that can be found: the arguments, the other side of an equality, and the fields of the record at a known address, if it has as many
-- as the atom. Where the rule applies, its variables have the values found.
pub record AllFound (rule_set : RuleSet) (heap : Heap) (rule : Rule) (arguments : List ℕ) (env : Known) : Type 0 where
  pub long : length env ≡ length arguments + rule.bound
  pub heads : (v : ℕ) → v < length arguments → known_of env (var v) ≡ some (get_or arguments v 0)
  pub to_right : {left right : Term} → equals left right among rule.pures → Has env left → Has env right
  pub to_left : {left right : Term} → equals left right among rule.pures → Has env right → Has env left
  pub of_field : {atom : PointsTo} {term : Term} → atom among rule.points_to → term among atom.fields → (i : ℕ) → i < length heap
      → length (get_or heap i blank).fields ≡ length atom.fields → known_of env (var atom.address) ≡ some (get_or heap i blank).address
      → Has env term
  pub agrees : {bound indices : List ℕ} → Applies rule_set heap rule arguments bound indices → Agrees env (arguments ++ bound)
