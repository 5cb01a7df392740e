-- A rule against the values σ of its variables and the fixed values: its pure conditions, and the records that its points-to atoms take,
-- each of which was free.
use mathlib.Core.{List.List, Path.◌≡◌}
use Rattle.std.specs.Prelude.{ℕ, ◌+◌, ◌^◌, ◌<◌, length, get_or, Option, MatchOption}
use Rattle.semantics.specs.{Heap.Heap, Heap.blank, Heap.Shares, Heap.Disjoint, RuleSet.PointsTo, Tree.Meets, Tree.asked, WalkOutcome.TakesFreely}
use Rattle.block.specs.Layout.{pure_as, atom_as, rule_as, heap_in, pure_count, pure_place, atom_place}

abbrev pub PuresMet : (ℕ → ℕ) → List ℕ → ℕ → List ℕ → Type 0
PuresMet value rules at σ = (k : ℕ) → k < pure_count rules at → Meets σ (pure_as value rules (pure_place at k))

-- A free record is taken for an atom: the mask afterwards.
pub record RecordTaken (heap : Heap) (σ : List ℕ) (atom : PointsTo) (mask after : ℕ) : Type 0 where
  pub i : ℕ
  pub below : i < length heap
  pub is : get_or heap i blank ≡ asked σ atom
  pub free : Disjoint (2 ^ i) mask
  pub marked : after ≡ 2 ^ i + mask

-- No record that an atom asks for is free.
abbrev pub NoneFree : Heap → List ℕ → PointsTo → ℕ → Type 0
NoneFree heap σ atom mask = (i : ℕ) → i < length heap → get_or heap i blank ≡ asked σ atom → Shares (2 ^ i) mask

-- A free record is taken for an atom; or no record that it asks for is free.
abbrev pub TakesFree : Heap → List ℕ → PointsTo → ℕ → Option ℕ → Type 0
TakesFree heap σ atom mask r = MatchOption r (NoneFree heap σ atom mask) (RecordTaken heap σ atom mask)

abbrev pub TakesOne : (ℕ → ℕ) → List ℕ → ℕ → ℕ → List ℕ → List ℕ → ℕ → Option ℕ → Type 0
TakesOne value rules at g σ heap mask r = TakesFree (heap_in heap) σ (atom_as value rules (atom_place at g)) mask r

-- A free record is taken for each of the atoms in order; or there is no way to do so.
abbrev pub TakesAll : Heap → List ℕ → List PointsTo → ℕ → Option ℕ → Type 0
TakesAll heap σ atoms mask r = MatchOption r ((later : ℕ) → ¬ TakesFreely heap σ atoms mask later) (TakesFreely heap σ atoms mask)

abbrev pub TakesEach : (ℕ → ℕ) → List ℕ → ℕ → List ℕ → List ℕ → ℕ → Option ℕ → Type 0
TakesEach value rules at σ heap mask r = TakesAll (heap_in heap) σ (rule_as value rules at).points_to mask r
