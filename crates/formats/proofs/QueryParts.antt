-- A query: the predicate's name, a count that must be its arity, and as many values.
use mathlib.Core.{Path.◌≡◌, Path.refl, Path.sym, Path.ap, Path.ap₂, Path.◌∙◌, Logic.inl, List.List, List.[], List.◌∷◌}
use Prim.Native.Nat.{ℕ, ◌+◌, ◌≤◌, ◌<◌}
use native.Mathlib.{Decide.dec_lt, Omega.arith}
use borrow.Author.Tests.{le-leb, lt-leb, eq-eqb, ne_eqb}
use lib.{ListN.length, ListN.get_or, ListN.set, ListN.length-set, Seq.get_or-set_same, Seq.get_or-set_other, Dec.leb, Dec.ltb, Dec.eqb}
use Rattle.std.specs.Prelude.{Result, Ok, Err}
use Rattle.semantics.specs.{Reader.Reader, Reader.onward, Reader.◌>>=◌, Reader.byte, Reader.ensure, Reader.times, Formats.value, Formats.Query, Formats.query}
use Rattle.semantics.specs.declared.Refusal.{Refusal}
use Rattle.reader.specs.{Outcome.Yields, Outcome.valued, Outcome.ranged_byte, Outcome.byte_below, Outcome.Ranged, Outcome.BelowBound, Layout.value_layout, Layout.Fills, Layout.many}
use Rattle.book.specs.BookLayout.{arities_in}
use Rattle.block.specs.Layout.{query_predicate, query_count, query_place, query_values, query_size}
use Rattle.words.specs.Entries.{entries}
use Rattle.formats.specs.Refusal.{query_in}
use Rattle.reader.proofs.{Chain.assoc, Chain.chain, Chain.stop, Chain.close, Chain.become, Chain.alike, Chain.turn, Section.ones}
use Rattle.book.proofs.Heading.{arities_length, arity_at}

below_then : {A : Type 0} {s s' : List ℕ} {r : Result A Refusal} (short off n : ℕ) (next : ℕ → Reader A) → Yields (◌>>=◌ (byte_below short off n) next) s s' r
    → Yields (◌>>=◌ (byte short) (λ b. ◌>>=◌ (ensure (ltb b n) off b) next)) s s' r
below_then short off n next h = alike _ (λ bytes. assoc (byte short bytes) (λ b. ensure (ltb b n) off b) next) h

-- a number from m to m is m
exact_test : (m b : ℕ) (bytes : List ℕ) → ensure (eqb b m) 9 b bytes ≡ onward (ensure (leb m b) 9 b bytes) (λ l. ensure (leb l m) 9 l)
exact_test m b bytes = go (dec_lt b m) (dec_lt m b)
  where
    go : Dec (b < m) → Dec (m < b) → ensure (eqb b m) 9 b bytes ≡ onward (ensure (leb m b) 9 b bytes) (λ l. ensure (leb l m) 9 l)
    go (yes l) k = rw (ne_eqb b m (λ e. omega arith), lt-leb m b l)
    go (no l) (yes k) = rw (ne_eqb b m (λ e. omega arith), le-leb m b (omega arith), lt-leb b m k)
    go (no l) (no k) = rw (eq-eqb b m (omega arith), le-leb m b (omega arith), le-leb b m (omega arith))

exact_then : {A : Type 0} {s s' : List ℕ} {r : Result A Refusal} (m : ℕ) (next : ℕ → Reader A) → Yields (◌>>=◌ (ranged_byte 9 9 m m) next) s s' r
    → Yields (◌>>=◌ (byte 9) (λ b. ◌>>=◌ (ensure (eqb b m) 9 b) next)) s s' r
exact_then m next h = alike _ same h
  where
    same : (bytes : List ℕ) → onward (byte 9 bytes) (λ b. ◌>>=◌ (ensure (eqb b m) 9 b) next) ≡ onward (ranged_byte 9 9 m m bytes) next
    same [] = refl
    same (b ∷ bytes) = rw (exact_test m b bytes)

abbrev as_query : ℕ → List ℕ → Query
as_query predicate values = record { predicate = predicate; values = values }

module _ (rules : List ℕ) {s s₁ : List ℕ} where
  pub no_name : {e : Refusal} → BelowBound 9 9 (get_or rules 0 0) s s₁ (Err e) → Yields (query (arities_in rules)) s s₁ (Err e)
  no_name name = rw (arities_length rules) (below_then 9 9 (get_or rules 0 0) _ (stop _ name.reads))

  module _ {p : ℕ} (name : BelowBound 9 9 (get_or rules 0 0) s s₁ (Ok p)) where
    named : {s' : List ℕ} {r : Result Query Refusal} (next : ℕ → Reader Query) → Yields (next p) s₁ s' r
        → Yields (◌>>=◌ (byte 9) (λ b. ◌>>=◌ (ensure (ltb b (length (arities_in rules))) 9 b) next)) s s' r
    named next h = rw (arities_length rules) (below_then 9 9 (get_or rules 0 0) next (chain next name.reads h))

    arity : get_or rules (8 + p) 0 ≡ get_or (arities_in rules) p 0
    arity = sym (arity_at rules p name.small)

    pub no_count : {s₂ : List ℕ} {e : Refusal} → Ranged 9 9 (get_or rules (8 + p) 0) (get_or rules (8 + p) 0) s₁ s₂ (Err e) → Yields (query (arities_in rules)) s s₂ (Err e)
    no_count count = named _ (exact_then (get_or (arities_in rules) p 0) _ (stop _ (turn (ap (λ (m : ℕ). ranged_byte 9 9 m m) arity) count.reads)))

    pub query_read : {A : Type 0} {s₂ s₃ : List ℕ} {m : ℕ} (xs : List ℕ) (r : Result A Refusal) → Ranged 9 9 (get_or rules (8 + p) 0) (get_or rules (8 + p) 0) s₁ s₂ (Ok m)
        → Yields (times m (value 9)) s₂ s₃ (valued r xs) → Yields (query (arities_in rules)) s s₃ (valued r (as_query p xs))
    query_read xs r count values =
        named _ (exact_then (get_or (arities_in rules) p 0) _ (chain _ (turn (ap (λ (m : ℕ). ranged_byte 9 9 m m) arity) count.reads) (close xs r (as_query p) values)))

-- The predicate and the count are stored at the first two places, and the values after the constants; nothing else changes.
module _ (q : List ℕ) (p k : ℕ) {A : Type 0} {s s' q' : List ℕ} {r : Result A Refusal} {first : ℕ} (long : length q ≡ query_size)
    (is_first : first ≡ query_place q) (values : Fills (many k (value_layout 9)) first s s' (set (set q 0 p) 1 k) q' r) where
  stays : (i : ℕ) → i < first → get_or q' i 0 ≡ get_or (set (set q 0 p) 1 k) i 0
  stays i l = values.kept.same i (inl l)

  pub query_kept : (i : ℕ) → 2 ≤ i → i < query_place q → get_or q' i 0 ≡ get_or q i 0
  query_kept i l h = stays i (omega arith) ∙ get_or-set_other (set q 0 p) 1 i k 0 (λ e. omega arith) ∙ get_or-set_other q 0 i p 0 (λ e. omega arith)

  named_is : query_predicate q' ≡ p
  named_is = stays 0 (omega arith) ∙ get_or-set_other (set q 0 p) 1 0 k 0 (λ e. omega arith) ∙ get_or-set_same q 0 p 0 (omega arith)

  counted_is : query_count q' ≡ k
  counted_is = stays 1 (omega arith) ∙ get_or-set_same (set q 0 p) 1 k 0 (simp length-set (omega arith))

  place_is : query_place q' ≡ first
  place_is = omega (arith, query_kept 2 (omega arith) (omega arith))

  values_are : query_values q' ≡ entries q' first k
  values_are = ap₂ (λ (n at : ℕ). entries q' at n) counted_is place_is

  pub query_long : length q' ≡ length q
  query_long = values.kept.long ∙ simp length-set

  pub query_fills : (rules : List ℕ) {s₀ s₁ : List ℕ} → BelowBound 9 9 (get_or rules 0 0) s₀ s₁ (Ok p)
      → Ranged 9 9 (get_or rules (8 + p) 0) (get_or rules (8 + p) 0) s₁ s (Ok k) → Yields (query (arities_in rules)) s₀ s' (valued r (query_in q'))
  query_fills rules name count =
      become (ap (λ (a : Query). valued r a) (ap₂ as_query (sym named_is) (ones q' first k ∙ sym values_are))) (query_read rules name _ r count values.reads)
