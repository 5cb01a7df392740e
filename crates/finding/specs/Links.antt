-- Along the links of a rule: its equalities, and the fields of records at known addresses; `value` has the fixed values. No link loses a
-- value; what it adds is what the rule has wherever it applies; and what it leads to from a known side is known then.
use mathlib.Core.{List.List, Path.◌≡◌}
use Rattle.std.specs.Prelude.{ℕ, ◌+◌, ◌<◌, get_or}
use Rattle.semantics.specs.{Lists.◌among◌, Tree.value_of, Tree.Meets, Tree.asked}
use Rattle.block.specs.Layout.{term_as, pure_as, atom_as, heap_in, pure_count, pure_place, pure_kind, pure_left, pure_right, atom_count, atom_place, atom_address, atom_size, atom_field, record_count, record_address, record_size, record_field}
use Rattle.block.specs.Ready.{variables_in}
use Rattle.finding.specs.Values.{open_entry, Valued}

-- Nothing known is lost.
abbrev pub Keeps : List ℕ → List ℕ → Type 0
Keeps before after = (v : ℕ) → get_or before v 0 < open_entry → get_or after v 0 ≡ get_or before v 0

-- What is known of the first n variables is what σ has.
abbrev pub AgreesTo : ℕ → List ℕ → List ℕ → Type 0
AgreesTo n values σ = (v : ℕ) → v < n → get_or values v 0 < open_entry → get_or σ v 0 ≡ get_or values v 0

-- From the values before to those after, along what holds of every σ that the rule applies with.
pub record Along (n : ℕ) (Holds : List ℕ → Type 0) (Closed : List ℕ → List ℕ → Type 0) (before after : List ℕ) : Type 0 where
  pub keeps : Keeps before after
  pub agrees : (σ : List ℕ) → Holds σ → AgreesTo n before σ → AgreesTo n after σ
  pub closed : Closed before after

-- The same along the first m of several links.
abbrev pub AlongEach : ℕ → ℕ → (ℕ → List ℕ → Type 0) → (ℕ → List ℕ → List ℕ → Type 0) → List ℕ → List ℕ → Type 0
AlongEach m n Holds Closed before after = Along n (λ σ. (k : ℕ) → k < m → Holds k σ) (λ b a. (k : ℕ) → k < m → Closed k b a) before after

-- ---- equalities

-- Where an equality had a known side, both are known.
pub record PureClosed (rules : List ℕ) (at k : ℕ) (before after : List ℕ) : Type 0 where
  pub to_right : pure_kind rules at k ≡ 0 → Valued before (pure_left rules at k) → Valued after (pure_right rules at k)
  pub to_left : pure_kind rules at k ≡ 0 → Valued before (pure_right rules at k) → Valued after (pure_left rules at k)

abbrev pub PureMet : (ℕ → ℕ) → List ℕ → ℕ → ℕ → List ℕ → Type 0
PureMet value rules at k σ = Meets σ (pure_as value rules (pure_place at k))

abbrev pub AlongPure : (ℕ → ℕ) → List ℕ → ℕ → ℕ → List ℕ → List ℕ → Type 0
AlongPure value rules at k before after = Along (variables_in rules at) (PureMet value rules at k) (PureClosed rules at k) before after

abbrev pub AlongPures : (ℕ → ℕ) → List ℕ → ℕ → List ℕ → List ℕ → Type 0
AlongPures value rules at before after = AlongEach (pure_count rules at) (variables_in rules at) (PureMet value rules at) (PureClosed rules at) before after

-- ---- fields of records

-- Term j, from a place of the rules on, has field j of record i; it is known.
abbrev pub FieldIs : (ℕ → ℕ) → List ℕ → ℕ → List ℕ → ℕ → ℕ → List ℕ → Type 0
FieldIs value rules terms heap i j σ = value_of σ (term_as value (get_or rules (terms + j) 0)) ≡ record_field heap i j

abbrev pub FieldKnown : List ℕ → ℕ → ℕ → List ℕ → List ℕ → Type 0
FieldKnown rules terms j before after = Valued after (get_or rules (terms + j) 0)

-- So many terms have got the fields of record i, whatever the number of variables and the fixed values.
abbrev pub AlongFields : List ℕ → ℕ → List ℕ → ℕ → ℕ → List ℕ → List ℕ → Type 0
AlongFields rules terms heap i count before after = (value : ℕ → ℕ) (n : ℕ) → AlongEach count n (FieldIs value rules terms heap i) (FieldKnown rules terms) before after

-- Where an atom's address was known, and a record with as many fields is there, all fields are known.
pub record AtomClosed (rules : List ℕ) (at : ℕ) (heap : List ℕ) (g : ℕ) (before after : List ℕ) : Type 0 where
  pub fields : (i : ℕ) → i < record_count heap → record_size heap i ≡ atom_size rules at g → get_or before (atom_address rules at g) 0 < open_entry
      → get_or before (atom_address rules at g) 0 ≡ record_address heap i → (j : ℕ) → j < atom_size rules at g → Valued after (atom_field rules at g j)

-- The record that an atom asks for is there.
abbrev pub AtomHas : (ℕ → ℕ) → List ℕ → ℕ → List ℕ → ℕ → List ℕ → Type 0
AtomHas value rules at heap g σ = asked σ (atom_as value rules (atom_place at g)) among heap_in heap

-- Along atoms, whatever the fixed values: the address is a variable.
abbrev pub AlongAtom : List ℕ → ℕ → List ℕ → ℕ → List ℕ → List ℕ → Type 0
AlongAtom rules at heap g before after = (value : ℕ → ℕ) → Along (variables_in rules at) (AtomHas value rules at heap g) (AtomClosed rules at heap g) before after

abbrev pub AlongAtomsAs : ℕ → (ℕ → ℕ) → List ℕ → ℕ → List ℕ → List ℕ → List ℕ → Type 0
AlongAtomsAs m value rules at heap before after = AlongEach m (variables_in rules at) (AtomHas value rules at heap) (AtomClosed rules at heap) before after

abbrev pub AlongAtoms : List ℕ → ℕ → List ℕ → List ℕ → List ℕ → Type 0
AlongAtoms rules at heap before after = (value : ℕ → ℕ) → AlongAtomsAs (atom_count rules at) value rules at heap before after
