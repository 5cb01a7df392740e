-- Which bytes of a rule name something fixed, and what is marked of them so far: an entry of a variable that has a value is a mark.
use mathlib.Core.{List.List, Path.◌≡◌, Logic.◌⊎◌}
use Rattle.std.specs.Prelude.{ℕ, ◌+◌, ◌≤◌, ◌<◌, get_or}
use Rattle.block.specs.Layout.{head_arity, pure_count, pure_kind, pure_left, pure_right, atom_count, atom_address, atom_size, atom_field}
use Rattle.block.specs.Ready.{variables_in}
use Rattle.finding.specs.{Values.open_entry, Values.Valued, Links.Keeps, Links.PureClosed}

-- The byte names a fixed term: the same cases as those of a term.
pub data FixedByte (rules : List ℕ) (at : ℕ) : ℕ → Type 0 where
  fixed_value : {t : ℕ} → 128 ≤ t → FixedByte rules at t
  of_head : {t : ℕ} → t < head_arity rules at → FixedByte rules at t
  to_right : (k : ℕ) → k < pure_count rules at → pure_kind rules at k ≡ 0 → FixedByte rules at (pure_left rules at k) → FixedByte rules at (pure_right rules at k)
  to_left : (k : ℕ) → k < pure_count rules at → pure_kind rules at k ≡ 0 → FixedByte rules at (pure_right rules at k) → FixedByte rules at (pure_left rules at k)
  of_field : (g j : ℕ) → g < atom_count rules at → j < atom_size rules at g → FixedByte rules at (atom_address rules at g) → FixedByte rules at (atom_field rules at g j)

abbrev pub AllFixedIn : List ℕ → ℕ → Type 0
AllFixedIn rules at = (v : ℕ) → v < variables_in rules at → FixedByte rules at v

-- ---- marks

-- So many terms, from a place of the rules on, have been marked, and nothing else.
pub record Given (rules : List ℕ) (terms count : ℕ) (before after : List ℕ) : Type 0 where
  pub keeps : Keeps before after
  pub only : (v : ℕ) → get_or after v 0 < open_entry → (get_or before v 0 < open_entry) ⊎ ((j : ℕ) × (j < count) × (get_or rules (terms + j) 0 ≡ v))
  pub all : (j : ℕ) → j < count → Valued after (get_or rules (terms + j) 0)

-- The same, where a term was marked.
pub data Passes (rules : List ℕ) (from terms count : ℕ) (before after : List ℕ) : Type 0 where
  passes : Valued before from → Given rules terms count before after → Passes rules from terms count before after
  stays : ¬ Valued before from → after ≡ before → Passes rules from terms count before after

-- What is marked of the rule's variables is fixed.
abbrev pub Sound : List ℕ → ℕ → List ℕ → Type 0
Sound rules at values = (v : ℕ) → v < variables_in rules at → get_or values v 0 < open_entry → FixedByte rules at v

-- Along links: no mark is lost, what is marked is fixed, and what a link leads to from a mark is marked then.
pub record Along (rules : List ℕ) (at : ℕ) (Closed : List ℕ → List ℕ → Type 0) (before after : List ℕ) : Type 0 where
  pub keeps : Keeps before after
  pub sound : Sound rules at before → Sound rules at after
  pub closed : Closed before after

-- Along the first m of several links.
abbrev pub AlongEach : List ℕ → ℕ → ℕ → (ℕ → List ℕ → List ℕ → Type 0) → List ℕ → List ℕ → Type 0
AlongEach rules at m Closed before after = Along rules at (λ b a. (k : ℕ) → k < m → Closed k b a) before after

abbrev pub AlongPure : List ℕ → ℕ → ℕ → List ℕ → List ℕ → Type 0
AlongPure rules at k before after = Along rules at (PureClosed rules at k) before after

abbrev pub AlongPures : List ℕ → ℕ → List ℕ → List ℕ → Type 0
AlongPures rules at before after = AlongEach rules at (pure_count rules at) (PureClosed rules at) before after

-- Where an atom's address was marked, its fields are.
abbrev pub AtomClosed : List ℕ → ℕ → ℕ → List ℕ → List ℕ → Type 0
AtomClosed rules at g before after = Valued before (atom_address rules at g) → (j : ℕ) → j < atom_size rules at g → Valued after (atom_field rules at g j)

abbrev pub AlongAtoms : List ℕ → ℕ → List ℕ → List ℕ → Type 0
AlongAtoms rules at before after = AlongEach rules at (atom_count rules at) (AtomClosed rules at) before after
