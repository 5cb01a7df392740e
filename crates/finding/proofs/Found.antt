-- All that can be found: the values that each link leads back to, sought from the arguments.
use mathlib.Core.List.Memᴰ
use mathlib.Core.{List.List, List.◌++◌, Option.Option, Option.some, Path.◌≡◌, Path.sym, Path.ap, Path.◌∙◌}
use Prim.Native.Nat.{ℕ, ◌+◌, ◌≤◌, ◌<◌}
use native.Mathlib.{Omega.arith, Decide.ℕ_discrete, Decide.dec_lt}
use borrow.Author.Tests.{ne_eqb}
use lib.{ListN.length, ListN.get_or, ListN.take, ListN.length-append, ListN.get_or-append, Seq.get_or-take, Seq.length-take-le}
use Rattle.semantics.specs.RuleSet.{Term, var, equal, unequal, Pure, PointsTo}
use Rattle.semantics.specs.{Lists.◌among◌, Heap.Record, Heap.blank, Tree.Applies, Plain.equals, Found.known_of, Found.Has}
use Rattle.semantics.proofs.Addresses.{taken_by}
use Rattle.words.specs.Entries.{entries}
use Rattle.words.proofs.Tabulate.{tabulate_in, tabulate_out, entries-length}
use Rattle.block.specs.Layout.{term_as, kind_in, pure_as, atom_as, heap_in, rule_as, rule_set_read, fixed_in, head_arity, pure_count, pure_place, pure_kind, pure_left, pure_right, atom_count, atom_place, atom_address, atom_size, atom_field, record_count, record_place, record_size}
use Rattle.block.specs.Ready.{FormedRead, variables_in}
use Rattle.block.proofs.{HeapInBlock.heap_count, HeapInBlock.record_is, HeapInBlock.record_listed, RuleAs.terms_counted}
use Rattle.finding.specs.{Values.open_entry, Values.opens, Values.known_in, Found.Opened, Found.FoundIn, Links.AgreesTo}
use Rattle.finding.proofs.Opens.{opens_none}
use Rattle.finding.proofs.Turns.{Met, Sought, Still}
use Rattle.finding.proofs.Known.{has_entry, entry_has, valued_has, has_then, known_long, known_agrees}

-- an equality by its byte
kind_equal : (b : ℕ) → equal ≡ kind_in b → b ≡ 0
kind_equal b e = step (ℕ_discrete b 0)
  where
    step : Dec (b ≡ 0) → b ≡ 0
    step (yes q) = q
    step (no q) =
        let other : equal ≡ unequal = rw (ne_eqb b 0 q, kind_in) at e in
        let z : ◌≡◌ {A = ℕ} 0 1 = cc in
        absurd (omega arith)

-- ---- links of the rule, by their numbers

module _ (value : ℕ → ℕ) (rules : List ℕ) (at : ℕ) where
  pub numbered_pure : (left right : Term) → equals left right among (rule_as value rules at).pures
      → (k : ℕ) × (k < pure_count rules at) × (pure_kind rules at k ≡ 0) × (left ≡ term_as value (pure_left rules at k)) × (right ≡ term_as value (pure_right rules at k))
  numbered_pure left right m =
      let (k, h, e) = tabulate_out (pure_count rules at) (λ i. pure_as value rules (pure_place at i)) (equals left right) m in
      (k, h, kind_equal (pure_kind rules at k) (ap (λ (p : Pure). p.kind) e), ap (λ (p : Pure). p.left) e, ap (λ (p : Pure). p.right) e)

  pub numbered_field : (g : ℕ) (term : Term) → term among (atom_as value rules (atom_place at g)).fields
      → (j : ℕ) × (j < atom_size rules at g) × (term_as value (atom_field rules at g j) ≡ term)
  numbered_field g term m =
      let (b, listed, is) = Memᴰ.of_map (term_as value) (entries rules (atom_place at g + 2) (atom_size rules at g)) m in
      let (j, h, e) = tabulate_out (atom_size rules at g) (atom_field rules at g) b listed in
      (j, h, ap (term_as value) (sym e) ∙ is)

  same_size : (heap : List ℕ) (i g : ℕ) → i < record_count heap → length (get_or (heap_in heap) i blank).fields ≡ length (atom_as value rules (atom_place at g)).fields
      → record_size heap i ≡ atom_size rules at g
  same_size heap i g h sized =
      sym (entries-length heap (record_place i + 2) (record_size heap i)) ∙ ap (λ (r : Record). length r.fields) (record_is heap i h) ∙ sized
      ∙ terms_counted value rules (atom_place at g + 2) (atom_size rules at g)

-- ---- what is known is closed

module _ (given rules : List ℕ) (at : ℕ) (heap : List ℕ) (f : FormedRead given rules at) (values : List ℕ) (still : Still rules at heap values) where
  known_right : (left right : Term) → equals left right among (rule_as (fixed_in given) rules at).pures → Has (known_in values (variables_in rules at)) left
      → Has (known_in values (variables_in rules at)) right
  known_right left right m has =
      let (k, h, is, l, r) = numbered_pure (fixed_in given) rules at left right m in
      rw r (has_then values (variables_in rules at) (fixed_in given) f.ready.variables_few (f.ready.pure_left_lem k h) (f.ready.pure_right_lem k h) ((still.pures k h).to_right is) (rw l at has))

  known_left : (left right : Term) → equals left right among (rule_as (fixed_in given) rules at).pures → Has (known_in values (variables_in rules at)) right
      → Has (known_in values (variables_in rules at)) left
  known_left left right m has =
      let (k, h, is, l, r) = numbered_pure (fixed_in given) rules at left right m in
      rw l (has_then values (variables_in rules at) (fixed_in given) f.ready.variables_few (f.ready.pure_right_lem k h) (f.ready.pure_left_lem k h) ((still.pures k h).to_left is) (rw r at has))

  known_field : (atom : PointsTo) (term : Term) → atom among (rule_as (fixed_in given) rules at).points_to → term among atom.fields → (i : ℕ) → i < length (heap_in heap)
      → length (get_or (heap_in heap) i blank).fields ≡ length atom.fields
      → known_of (known_in values (variables_in rules at)) (var atom.address) ≡ some (get_or (heap_in heap) i blank).address
      → Has (known_in values (variables_in rules at)) term
  known_field atom term m l i below sized known =
      let n = variables_in rules at in
      let (g, h, e) = tabulate_out (atom_count rules at) (λ k. atom_as (fixed_in given) rules (atom_place at k)) atom m in
      let (j, few, is) = numbered_field (fixed_in given) rules at g term (rw e at l) in
      let (valued, address) = entry_has values n (atom_address rules at g) (get_or (heap_in heap) i blank).address (f.ready.atom_address_lem g h) (rw e at known) in
      let there : i < record_count heap = omega (arith, heap_count heap) in
      let at_address = address ∙ ap (λ (r : Record). r.address) (sym (record_is heap i there)) in
      rw (← is)
      (valued_has values n (fixed_in given) f.ready.variables_few (atom_field rules at g j) (f.ready.atom_field_lem g h j few)
      ((still.atoms g h).fields i there (same_size (fixed_in given) rules at heap i g there (rw e at sized)) valued at_address j few))

-- ---- wherever the rule applies

module _ (given rules : List ℕ) (at : ℕ) (heap arguments : List ℕ) where
  -- conditions and records by their numbers
  applies_met : {bound indices : List ℕ} → Applies (rule_set_read given rules) (heap_in heap) (rule_as (fixed_in given) rules at) (take (head_arity rules at) arguments) bound indices
      → Met (fixed_in given) rules at heap (take (head_arity rules at) arguments ++ bound)
  applies_met a = record {
    pures = λ k h. a.meets (pure_as (fixed_in given) rules (pure_place at k)) (tabulate_in (pure_count rules at) (λ i. pure_as (fixed_in given) rules (pure_place at i)) k h);
    atoms = λ g h.
        let t = taken_by a.takes (tabulate_in (atom_count rules at) (λ i. atom_as (fixed_in given) rules (atom_place at i)) g h) in
        let below : t.index < record_count heap = omega (arith, heap_count heap, t.below) in
        Memᴰ.cast (sym t.is ∙ sym (record_is heap t.index below)) (record_listed heap t.index below);
  }

  -- the values that the search begins with are the arguments
  begins : (first bound : List ℕ) → head_arity rules at ≤ length arguments → Opened (head_arity rules at) (variables_in rules at) arguments first
      → AgreesTo (variables_in rules at) first (take (head_arity rules at) arguments ++ bound)
  begins first bound long o v h known = step (dec_lt v (head_arity rules at))
    where
      step : Dec (v < head_arity rules at) → get_or (take (head_arity rules at) arguments ++ bound) v 0 ≡ get_or first v 0
      step (yes l) =
          get_or-append (take (head_arity rules at) arguments) bound 0 v (omega (arith, length-take-le (head_arity rules at) arguments long))
          ∙ get_or-take (head_arity rules at) arguments v 0 l ∙ sym (o.earlier v l)
      step (no l) = absurd (omega (arith, o.opened v (omega arith) h))

  pub all_found : FormedRead given rules at → length arguments ≡ 8 → opens arguments ≡ 0 → (first values : List ℕ) → length values ≡ 8
      → Opened (head_arity rules at) (variables_in rules at) arguments first → Sought (fixed_in given) rules at heap first values → Still rules at heap values
      → FoundIn given rules at heap arguments values
  all_found f long none first values eight o sought still =
      let n = variables_in rules at in
      let arity = head_arity rules at in
      let few : n ≤ length values = omega (arith, f.ready.variables_few) in
      let counted : length (take arity arguments) ≡ arity = length-take-le arity arguments (omega (arith, f.ready.head_arity_lem)) in
      record {
        is = record {
          long = omega (arith, known_long values n few);
          heads = λ v h.
              let e = o.earlier v (omega arith) in
              let known : get_or first v 0 < open_entry = omega (arith, opens_none arguments none v) in
              has_entry values n v (omega arith) (omega (arith, sought.keeps v known))
              ∙ ap {B = Option ℕ} some (sought.keeps v known ∙ e ∙ sym (get_or-take arity arguments v 0 (omega arith)));
          to_right = λ {left} {right} m. known_right given rules at heap f values still left right m;
          to_left = λ {left} {right} m. known_left given rules at heap f values still left right m;
          of_field = λ {atom} {term} m l. known_field given rules at heap f values still atom term m l;
          agrees = λ {bound} {indices} a.
              known_agrees values n few (take arity arguments ++ bound)
              (omega (arith, length-append (take arity arguments) bound, a.bound_counted))
              (sought.agrees (take arity arguments ++ bound) (applies_met a) (begins first bound (omega (arith, f.ready.head_arity_lem)) o));
        };
        later = λ v h.
            let known : get_or first v 0 < open_entry = omega (arith, o.later v h, opens_none arguments none v) in
            omega (arith, sought.keeps v known);
      }
