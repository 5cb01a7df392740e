-- Two rules of one predicate with their variables together: sixteen entries, the first rule's variables in the first eight, the second
-- rule's bound ones eight places further than its own numbers. An entry is a value, or the label of a class, which is no value.
use mathlib.Core.{Bool.Bool, Bool.true, Bool.false, List.List, Path.◌≡◌, Logic.◌≢◌, Logic.◌↔◌}
use Rattle.std.specs.Prelude.{ℕ, ◌+◌, ◌-◌, ◌≤◌, ◌<◌}
use lib.{ListN.length, ListN.get_or, Dec.eqb, Dec.ltb}
use Rattle.block.specs.Layout.{head_arity, pure_count, pure_kind, pure_left, pure_right}
use Rattle.finding.specs.Values.{open_entry}

-- ---- values of all variables together

-- Where variable v of a rule stands, if so many variables are shared: all eight of the first rule, and the head's of the second.
abbrev pub seat : ℕ → ℕ → ℕ
seat shared v = elim (ltb v shared) [ true ↦ v | false ↦ v + 8 ]

-- The value of a term's byte.
abbrev pub entry_by : (ℕ → ℕ) → ℕ → (ℕ → ℕ) → ℕ → ℕ
entry_by value shared σ t = elim (ltb t 128) [ true ↦ σ (seat shared t) | false ↦ value (t - 128) ]

-- The first conditions of the rule at a place, so many, are met: the equalities, and the others.
abbrev pub EqualMet : (ℕ → ℕ) → List ℕ → ℕ → ℕ → ℕ → (ℕ → ℕ) → Type 0
EqualMet value rules at shared k σ = pure_kind rules at k ≡ 0 → entry_by value shared σ (pure_left rules at k) ≡ entry_by value shared σ (pure_right rules at k)

abbrev pub EqualsMet : (ℕ → ℕ) → List ℕ → ℕ → ℕ → ℕ → (ℕ → ℕ) → Type 0
EqualsMet value rules at shared n σ = (k : ℕ) → k < n → EqualMet value rules at shared k σ

abbrev pub UnequalMet : (ℕ → ℕ) → List ℕ → ℕ → ℕ → ℕ → (ℕ → ℕ) → Type 0
UnequalMet value rules at shared k σ = pure_kind rules at k ≢ 0 → entry_by value shared σ (pure_left rules at k) ≢ entry_by value shared σ (pure_right rules at k)

abbrev pub UnequalsMet : (ℕ → ℕ) → List ℕ → ℕ → ℕ → ℕ → (ℕ → ℕ) → Type 0
UnequalsMet value rules at shared n σ = (k : ℕ) → k < n → UnequalMet value rules at shared k σ

-- All conditions of a rule are met.
pub record SideMet (value : ℕ → ℕ) (rules : List ℕ) (at shared : ℕ) (σ : ℕ → ℕ) : Type 0 where
  pub equals : EqualsMet value rules at shared (pure_count rules at) σ
  pub unequals : UnequalsMet value rules at shared (pure_count rules at) σ

-- Some values meet the conditions of both rules, the head's variables shared.
pub record Overlaps (value : ℕ → ℕ) (rules : List ℕ) (at other : ℕ) : Type 0 where
  pub σ : ℕ → ℕ
  pub first : SideMet value rules at 8 σ
  pub second : SideMet value rules other (head_arity rules at) σ

-- ---- classes

abbrev pub entries_of : List ℕ → ℕ → ℕ
entries_of classes v = get_or classes v 0

-- Every variable in a class of its own.
pub record Fresh (classes : List ℕ) : Type 0 where
  pub long : length classes ≡ 16
  pub labelled : (v : ℕ) → v < 16 → entries_of classes v ≡ open_entry + v

-- An entry z once x has become y.
abbrev pub moved : ℕ → ℕ → ℕ → ℕ
moved x y z = elim (eqb z x) [ true ↦ y | false ↦ z ]

abbrev pub Replaced : ℕ → ℕ → List ℕ → List ℕ → Type 0
Replaced x y before after = (v : ℕ) → v < 16 → entries_of after v ≡ moved x y (entries_of before v)

-- Two entries made the same: they are already, or a label becomes the other; or they are two different values.
pub data Joined (x y : ℕ) (before after : List ℕ) (ok : Bool) : Type 0 where
  same : ok ≡ true → x ≡ y → after ≡ before → Joined x y before after ok
  left : ok ≡ true → open_entry ≤ x → Replaced x y before after → Joined x y before after ok
  right : ok ≡ true → open_entry ≤ y → Replaced y x before after → Joined x y before after ok
  clash : ok ≡ false → x < open_entry → y < open_entry → x ≢ y → Joined x y before after ok

-- Values that follow the classes: variables of one class have one value, and where the entry is a value, it is that one.
pub record Follows (σ : ℕ → ℕ) (classes : List ℕ) : Type 0 where
  pub image : ℕ → ℕ
  pub fixes : (x : ℕ) → x < open_entry → image x ≡ x
  pub is : (v : ℕ) → v < 16 → σ v ≡ image (entries_of classes v)

-- A condition has been merged: the values that follow now are those that did before and meet it; or none of those meets it.
pub data Merged (Met : (ℕ → ℕ) → Type 0) (before after : List ℕ) (ok : Bool) : Type 0 where
  merged : ok ≡ true → ((σ : ℕ → ℕ) → Follows σ after → Follows σ before × Met σ) → ((σ : ℕ → ℕ) → Follows σ before → Met σ → Follows σ after)
      → Merged Met before after ok
  never : ok ≡ false → ((σ : ℕ → ℕ) → Follows σ before → ¬ Met σ) → Merged Met before after ok

-- The classes of the first rule: what follows is what meets its equalities.
abbrev pub ClassesOf : (ℕ → ℕ) → List ℕ → ℕ → List ℕ → Type 0
ClassesOf value rules at classes = (σ : ℕ → ℕ) → Follows σ classes ↔ EqualsMet value rules at 8 (pure_count rules at) σ
