-- The record that a points-to atom asks for is the one at its address, so that one look decides; and atom after atom, what the rest takes.
use mathlib.Core.{Logic.◌≢◌, Path.◌≡◌, Path.sym, Path.ap, Path.◌∙◌, List.List, List.[], List.◌∷◌}
use Prim.Native.Nat.{ℕ, ◌+◌, ◌≤◌, ◌<◌}
use native.Mathlib.Omega.{arith}
use lib.{ListN.length, ListN.get_or, ListN.drop}
use Rattle.semantics.specs.{Heap.Record, Heap.Heap, Heap.WellFormedHeap, Heap.Ordered, Heap.blank, RuleSet.PointsTo, Tree.asked}
use Rattle.semantics.proofs.{Addresses.address_once, WalkLoops.AtomsLeft, WalkLoops.atoms_stop, WalkLoops.atoms_next}
use Rattle.words.proofs.Tabulate.{tabulate-drop, tabulate_past}
use Rattle.block.specs.Layout.{atom_as, rule_as, heap_in, atom_count, atom_place, atom_address, record_count, record_address}
use Rattle.block.proofs.HeapInBlock.{heap_count, record_is}
use Rattle.semantics.specs.WalkOutcome.{TakesFreely}
use Rattle.walk.specs.Taking.{RecordTaken, NoneFree}

module _ (value : ℕ → ℕ) (rules : List ℕ) (rule g : ℕ) (σ heap : List ℕ) where
  -- record k is as atom g asks
  abbrev pub Wanted : ℕ → Type 0
  Wanted k = get_or (heap_in heap) k blank ≡ asked σ (atom_as value rules (atom_place rule g))

  wanted_address : (k : ℕ) → k < length (heap_in heap) → Wanted k → record_address heap k ≡ get_or σ (atom_address rules rule g) 0
  wanted_address k h e = ap (λ (r : Record). r.address) (record_is heap k (omega (arith, heap_count heap)) ∙ e)

  -- there is none where no record has the address
  pub nowhere : {address : ℕ} → address ≡ get_or σ (atom_address rules rule g) 0 → ((i : ℕ) → i < record_count heap → record_address heap i ≢ address)
      → (k : ℕ) → k < length (heap_in heap) → Wanted k → ⊥
  nowhere is none k low w = none k (omega (arith, heap_count heap)) (wanted_address k low w ∙ sym is)

  -- it is the one at the address
  pub only : WellFormedHeap (heap_in heap) → (i : ℕ) → i < record_count heap → record_address heap i ≡ get_or σ (atom_address rules rule g) 0
      → (k : ℕ) → k < length (heap_in heap) → Wanted k → k ≡ i
  only formed i h e k low w =
      address_once formed.ordered k i low (omega (arith, heap_count heap))
      (ap (λ (r : Record). r.address) (sym (record_is heap k (omega (arith, heap_count heap)))) ∙ wanted_address k low w ∙ sym e ∙ ap (λ (r : Record). r.address) (record_is heap i h))

-- ---- one atom after the other

pub atom_here : (value : ℕ → ℕ) (rules : List ℕ) (rule g : ℕ) → g < atom_count rules rule
    → drop g (rule_as value rules rule).points_to ≡ atom_as value rules (atom_place rule g) ∷ drop (g + 1) (rule_as value rules rule).points_to
atom_here value rules rule g h = tabulate-drop (atom_count rules rule) (λ i. atom_as value rules (atom_place rule i)) g h

pub atoms_past : (value : ℕ → ℕ) (rules : List ℕ) (rule g : ℕ) → atom_count rules rule ≤ g → drop g (rule_as value rules rule).points_to ≡ []
atoms_past value rules rule g h = tabulate_past (atom_count rules rule) (λ i. atom_as value rules (atom_place rule i)) g h

module _ {heap : Heap} {σ : List ℕ} {atoms : List PointsTo} {mask g now : ℕ} (left : AtomsLeft heap σ atoms mask g now) {atom : PointsTo}
    (here : drop g atoms ≡ atom ∷ drop (g + 1) atoms) where
  pub taken_next : Ordered heap → {after : ℕ} → RecordTaken heap σ atom now after → AtomsLeft heap σ atoms mask (g + 1) after
  taken_next ordered t = rw t.marked (atoms_next left here ordered t.i t.below t.is t.free)

  pub stuck_stop : NoneFree heap σ atom now → (later : ℕ) → ¬ TakesFreely heap σ atoms mask later
  stuck_stop none = atoms_stop left here none
