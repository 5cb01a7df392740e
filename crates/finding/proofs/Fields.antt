-- Points-to atoms as links: where the address is known, the record there is the one asked for, so its fields are the values of the atom's terms.
use mathlib.Core.{List.List, Path.◌≡◌, Path.sym, Path.ap, Path.◌∙◌}
use Prim.Native.Nat.{ℕ, ◌+◌, ◌<◌}
use native.Mathlib.Omega.{arith}
use lib.ListN.{get_or}
use Rattle.semantics.specs.{Heap.Record, Heap.WellFormedHeap, Tree.asked}
use Rattle.words.specs.Entries.{entries}
use Rattle.words.proofs.Tabulate.{tabulate_out}
use Rattle.block.specs.Layout.{atom_as, record_in, heap_in, atom_count, atom_place, atom_address, atom_size, atom_field, record_count, record_place, record_address}
use Rattle.block.specs.Ready.{FormedRule, variables_in}
use Rattle.block.proofs.TermsInBlock.{fields_are, address-asked, size_asked}
use Rattle.finding.specs.Values.{open_entry}
use Rattle.finding.specs.Links.{FieldKnown, AlongFields, AtomClosed, AtomHas, Along}
use Rattle.finding.proofs.Learning.{Stays, still_valued}
use Rattle.finding.proofs.Addresses.{one_record}

pub atom_stays : (rules : List ℕ) (at : ℕ) (heap : List ℕ) → Stays (AtomClosed rules at heap)
atom_stays rules at heap g a b c d ab closed cd = record {
  fields = λ i h sized known is j l.
      let same = ab (atom_address rules at g) known in
      still_valued c d (atom_field rules at g j) cd (closed.fields i h sized (omega arith) (same ∙ is) j l);
}

pub field_stays : (rules : List ℕ) (terms : ℕ) → Stays (FieldKnown rules terms)
field_stays rules terms j a b c d ab closed cd = still_valued c d (get_or rules (terms + j) 0) cd closed

module _ (value : ℕ → ℕ) (rules : List ℕ) (at : ℕ) (heap : List ℕ) (g : ℕ) where
  -- the record that the atom asks for, by its number
  asked_at : (σ : List ℕ) → AtomHas value rules at heap g σ
      → (i : ℕ) × (i < record_count heap) × (asked σ (atom_as value rules (atom_place at g)) ≡ record_in heap (record_place i))
  unfolding heap_in
  asked_at σ has = tabulate_out (record_count heap) (λ i. record_in heap (record_place i)) (asked σ (atom_as value rules (atom_place at g))) has

  -- it is the one at a number if its address is the one there
  asked_there : (σ : List ℕ) → AtomHas value rules at heap g σ → WellFormedHeap (heap_in heap) → (i : ℕ) → i < record_count heap
      → get_or σ (atom_address rules at g) 0 ≡ record_address heap i → record_in heap (record_place i) ≡ asked σ (atom_as value rules (atom_place at g))
  asked_there σ has formed i below is =
      let (i', below', e) = asked_at σ has in
      let same : i' ≡ i = one_record heap formed i' i below' below (address-asked value rules at g σ heap i' (sym e) ∙ is) in
      ap (λ (r : ℕ). record_in heap (record_place r)) (sym same) ∙ sym e

  -- the fields learnt are those of the record at the known address; if it has not as many, no σ has the record asked for
  pub along_record : {Fixed : ℕ → Type 0} → FormedRule Fixed rules at → g < atom_count rules at → WellFormedHeap (heap_in heap) → (before after : List ℕ) (i : ℕ) → i < record_count heap
      → get_or before (atom_address rules at g) 0 < open_entry → get_or before (atom_address rules at g) 0 ≡ record_address heap i
      → AlongFields rules (atom_place at g + 2) heap i (atom_size rules at g) before after
      → Along (variables_in rules at) (AtomHas value rules at heap g) (AtomClosed rules at heap g) before after
  along_record f h formed before after i below known is fields =
      let a = fields value (variables_in rules at) in
      record {
        keeps = a.keeps;
        agrees = λ σ has agrees.
            let e = asked_there σ has formed i below (agrees (atom_address rules at g) (f.ready.atom_address_lem g h) known ∙ is) in
            a.agrees σ
            (λ j l. sym ((fields_are value rules σ (atom_place at g + 2) (atom_size rules at g) heap (record_place i + 2)).0
            (ap (entries heap (record_place i + 2)) (sym (size_asked value rules at g σ heap i e)) ∙ ap (λ (r : Record). r.fields) e) j l))
            agrees;
        closed = record { fields = λ i' l s k e. a.closed };
      }
