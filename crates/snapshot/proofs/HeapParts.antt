-- Records: address, count and fields make a record, and records one after the other, each above the one before, make the heap.
use mathlib.Core.{Path.◌≡◌, Path.refl, Path.sym, Path.ap, Path.fun_ext, Path.◌∙◌, Logic.inl, List.List, List.◌∷◌}
use Prim.Native.Nat.{ℕ, zero, suc, ◌+◌, ◌*◌, ◌<◌}
use native.Mathlib.{Numerals.add-one, Omega.arith}
use lib.ListN.{get_or}
use Rattle.std.specs.Prelude.{Ok, Err}
use Rattle.semantics.specs.{Heap.Record, Heap.Heap, Reader.Got, Reader.got, Reader.fault, Reader.onward, Reader.◌>>=◌, Reader.give, Reader.counted}
use Rattle.semantics.specs.Formats.{value, address, records, snapshot}
use Rattle.semantics.specs.declared.Refusal.{Refusal}
use Rattle.words.specs.Entries.{tabulate}
use Rattle.block.specs.Layout.{record_in, heap_in}
use Rattle.words.proofs.Tabulate.{tabulate_more}
use Rattle.reader.specs.{Outcome.Yields, Layout.KeptOutside, Layout.value_layout, Layout.Fills, Layout.Gives, Layout.many}
use Rattle.snapshot.specs.HeapLayout.{address_layout, size_layout, record_above, record_layout, records_layout}
use Rattle.reader.proofs.Chain.{assoc, chain, stop, done, turn}
use Rattle.reader.proofs.Counting.{threaded, left, left_snoc, threaded_none, threaded_more, threaded_stop, ranged_then, counted_read, counted_stop}
use Rattle.reader.proofs.{Keep.kept_none, Keep.kept_both, Keep.stops, Section.ones, Section.entries_same, Section.Local, Section.row_more, Section.row_stop}

pub record_local : (low : ℕ) → Local (record_layout low)
record_local low = record {
  same = λ b b' at below here s.
      let e = here (at + 1) (omega arith) (omega arith) in
      let fields = entries_same b b' (at + 2) (get_or b (at + 1) 0) (λ i l₁ l₂. here i (omega arith) (omega arith)) in
      (rw (here at (omega arith) (omega arith), e, fields), rw (← e) at s);
}

-- address, count and fields of a record
module _ (low at : ℕ) {s s₁ s₂ b b₁ b₂ : List ℕ} {a : ℕ} (above : Gives (address_layout low) at s s₁ b b₁ (Ok a)) where
  pub no_count : {e : Refusal} → Fills {B = ℕ} (size_layout 4) (at + 1) s₁ s₂ b₁ b₂ (Err e) → Fills {B = ℕ} (record_layout low) at s s₂ b b₂ (Err e)
  no_count count =
      stops (record_layout low) (chain _ above.fills.reads (stop _ (counted_stop 5 6 4 (value 5) count.reads))) (kept_both at (at + 6) above.fills.kept count.kept (omega arith))

  module _ {m : ℕ} (count : Fills (size_layout 4) (at + 1) s₁ s₂ b₁ b₂ (Ok m)) {b₃ : List ℕ} where
    kept : KeptOutside (at + 2) (at + 2 + 1 * get_or b₂ (at + 1) 0) b₂ b₃ → KeptOutside at (at + 6) b b₃
    kept fields = kept_both at (at + 6) (kept_both at (at + 6) above.fills.kept count.kept (omega arith)) fields (omega (arith, count.sized.high))

    pub no_fields : {s₃ : List ℕ} {e : Refusal} → Fills {B = Unit {0}} (many (get_or b₂ (at + 1) 0) (value_layout 5)) (at + 2) s₂ s₃ b₂ b₃ (Err e)
        → Fills {B = ℕ} (record_layout low) at s s₃ b b₃ (Err e)
    no_fields fields = stops (record_layout low) (chain _ above.fills.reads (stop _ (counted_read 5 6 4 (value 5) count.reads fields.reads))) (kept fields.kept)

    pub record_read : {s₃ : List ℕ} → Fills (many (get_or b₂ (at + 1) 0) (value_layout 5)) (at + 2) s₂ s₃ b₂ b₃ (Ok (tt {0})) → Gives (record_layout low) at s s₃ b b₃ (Ok a)
    record_read {s₃} fields =
        let h : get_or b₃ at 0 ≡ get_or b₁ at 0 = fields.kept.same at (inl (omega arith)) ∙ count.kept.same at (inl (omega arith)) in
        let m : get_or b₃ (at + 1) 0 ≡ get_or b₂ (at + 1) 0 = fields.kept.same (at + 1) (inl (omega arith)) in
        record {
          fills = record {
            reads =
                rw (h, m, ← ones b₃ (at + 2) (get_or b₂ (at + 1) 0))
                (chain _ above.fills.reads (chain _ (counted_read 5 6 4 (value 5) count.reads fields.reads) (done s₃ _)));
            sized = rw m count.sized.high;
            kept = kept fields.kept;
          };
          number = above.number ∙ sym h;
        }

-- the definition's records, each reader after the address that the record before left behind
abbrev address_of : Record → ℕ
address_of here = here.address

records-threaded : (n low : ℕ) → threaded n low record_above address_of ≡ records n low
unfolding records threaded
records-threaded zero low = refl
records-threaded (suc n) low = fun_ext (λ bytes. first (records-threaded n) (address low bytes))
  where
    first : ((low : ℕ) → threaded n low record_above address_of ≡ records n low) → (r : Got ℕ)
        → onward (onward r (λ a. ◌>>=◌ (counted 5 6 4 (value 5)) (λ fs. give (record { address = a; fields = fs })))) (λ r. ◌>>=◌ (threaded n (address_of r) record_above address_of) (λ rest. give (r ∷ rest)))
        ≡ onward r (λ a. ◌>>=◌ (counted 5 6 4 (value 5)) (λ fs. ◌>>=◌ (records n a) (λ more. give (record { address = a; fields = fs } ∷ more))))
    first h (got a rest) = rw (← h a) (sym (assoc (counted 5 6 4 (value 5) rest) (λ fs. give (record { address = a; fields = fs })) _))
    first h (fault m) = refl

-- the records that a block has from place 1 on, and the address that the last of them leaves behind
abbrev pub records_in : List ℕ → ℕ → Heap
records_in b k = tabulate k (λ (i : ℕ). record_in b (1 + 6 * i))

abbrev pub last_address : List ℕ → ℕ → ℕ
last_address b k = left 0 address_of (records_in b k)

pub last_none : (b : List ℕ) → 0 ≡ last_address b 0
unfolding tabulate left
last_none b = refl

pub last_more : (b : List ℕ) (k : ℕ) → get_or b (1 + 6 * k) 0 ≡ last_address b (k + 1)
last_more b k =
    sym (ap (λ (h : Heap). left 0 address_of h) (rw (add-one k) (tabulate_more k (λ (i : ℕ). record_in b (1 + 6 * i))))
    ∙ left_snoc 0 address_of (records_in b k) (record_in b (1 + 6 * k)))

pub records_none : (s b : List ℕ) → Fills (records_layout 0) 1 s s b b (Ok (tt {0}))
unfolding tabulate
records_none s b = record {
  reads = turn (records-threaded 0 0) (threaded_none record_above address_of s 0);
  sized = λ k l. absurd (omega arith);
  kept = kept_none _ _ b;
}

module _ {s₀ s s' b₀ b b' : List ℕ} (low k : ℕ) (is : low ≡ last_address b k) (before : Fills (records_layout k) 1 s₀ s b₀ b (Ok (tt {0}))) where
  pub records_more : {B : Type 0} {x : B} → Fills (record_layout low) (1 + 6 * k) s s' b b' (Ok x) → Fills (records_layout (k + 1)) 1 s₀ s' b₀ b' (Ok (tt {0}))
  records_more here =
      row_more (record_layout 0) (tt {0}) (record_local 0) (records (k + 1) 0) 1 k (omega arith) before here.sized here.kept
      (rw (add-one k)
      (turn (records-threaded (suc k) 0)
      (threaded_more record_above address_of k 0 (records_in b k) (record_in b' (1 + 6 * k)) (turn (sym (records-threaded k 0)) before.reads) (rw (← is) here.reads))))

  pub records_stop : {B : Type 0} {e : Refusal} (n : ℕ) → k < n → Fills {B = B} (record_layout low) (1 + 6 * k) s s' b b' (Err e)
      → Fills {B = Unit {0}} (records_layout n) 1 s₀ s' b₀ b' (Err e)
  records_stop n l here =
      row_stop (record_layout 0) (records n 0) 1 k n l before.kept here.kept
      (turn (records-threaded n 0)
      (threaded_stop record_above address_of n k 0 (records_in b k) l (turn (sym (records-threaded k 0)) before.reads) (rw (← is) here.reads)))

-- the count and the records make the heap
pub heap_stop : {s s₁ b b₁ : List ℕ} {e : Refusal} → Fills {B = ℕ} (size_layout 16) 0 s s₁ b b₁ (Err e) → Yields snapshot s s₁ (Err e)
heap_stop count = ranged_then 5 6 16 (λ n. records n 0) (stop _ count.reads)

module _ {s s₁ s₂ b b₁ b₂ : List ℕ} {m : ℕ} (count : Fills (size_layout 16) 0 s s₁ b b₁ (Ok m)) where
  pub heap_broken : {e : Refusal} → Fills {B = Unit {0}} (records_layout (get_or b₁ 0 0)) 1 s₁ s₂ b₁ b₂ (Err e) → Yields snapshot s s₂ (Err e)
  heap_broken rest = ranged_then 5 6 16 (λ n. records n 0) (chain _ count.reads rest.reads)

  pub heap_fills : Fills (records_layout (get_or b₁ 0 0)) 1 s₁ s₂ b₁ b₂ (Ok (tt {0})) → Yields snapshot s s₂ (Ok (heap_in b₂))
  unfolding heap_in
  heap_fills rest = rw (rest.kept.same 0 (inl (omega arith))) (ranged_then 5 6 16 (λ n. records n 0) (chain _ count.reads rest.reads))
