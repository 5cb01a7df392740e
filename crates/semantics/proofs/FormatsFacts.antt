-- What the ladder accepts is well formed and within every size; what it refuses has a number of 1 to 9. For each reader, one law says what
-- is known of what it gives; a chain of readers has the laws chained. With bytes below 256 every value is below 2 ^ 32; the end mark is no
-- value.
use mathlib.Core.{Bool.Bool, Bool.true, Bool.false, Bool.not, Bool.◌&&◌, Bool.false≢true, Logic.◌≢◌, Path.◌≡◌, Path.refl, Path.ap, Path.◌∙◌, Logic.⊎_elim}
use mathlib.Core.List.Memᴰ
use mathlib.Core.List.{List, [], ◌∷◌}
use Prim.Native.Nat.{ℕ, zero, suc, ◌+◌, ◌-◌, ◌≤◌, ◌<◌}
use native.Mathlib.Omega.{arith}
use lib.{ListN.length, ListN.get_or, Dec.eqb, Dec.leb, Dec.ltb}
use borrow.Author.Tests.{eqb-true, eqb-false, leb-true, ltb-true}
use Rattle.semantics.specs.Lists.{◌among◌, digits}
use Rattle.semantics.specs.RuleSet.{Term, var, fixed, Kind, Pure, PointsTo, Call, Rule, RuleSet, InScope, WellFormed, WellFormedRule}
use Rattle.semantics.specs.Heap.{Record, Heap, Above, WellFormedHeap, heap_values}
use Rattle.semantics.specs.Reader.{Got, got, fault, Reader, onward, ◌>>=◌, give, ensure, byte, times, counted, word, Result, accepted, refused, all, and_then}
use Rattle.semantics.specs.Formats.{end_mark, as_read, is_address, named, term_of, term, kind_of, kind, pure, atom, call, body, rule, arguments, predicates, constants, rule_set, read_rule_set, value, address, records, snapshot, read_snapshot, Query, query, read_query, Input, ladder, WellFormedInput}
use Rattle.semantics.proofs.{Coding.get_d_in, Digits.digits_below}

-- a refusal's number
abbrev pub Number : ℕ → Type 0
Number n = (1 ≤ n) × (n ≤ 9)

abbrev Each : {A : Type 0} → (A → Type 0) → List A → Type 0
Each {A} P xs = (a : A) → a among xs → P a

each_none : {A : Type 0} (P : A → Type 0) → Each P []
each_none P a m = absurd (Memᴰ.not-nil m)

each_more : {A : Type 0} (P : A → Type 0) (x : A) (xs : List A) → P x → Each P xs → Each P (x ∷ xs)
each_more P x xs p h a m = ⊎_elim (λ e. rw e p) (h a) (Memᴰ.cases_cons m)

each_head : {A : Type 0} (P : A → Type 0) (x : A) (xs : List A) → Each P (x ∷ xs) → P x
each_head P x xs h = h x (Memᴰ.head refl)

-- n entries, each with P
record Entries {A : Type 0} (P : A → Type 0) (n : ℕ) (entries : List A) : Type 0 where
  pub count : length entries ≡ n
  pub each : Each P entries

-- at most so many entries, each with P
record Few {A : Type 0} (P : A → Type 0) (most : ℕ) (entries : List A) : Type 0 where
  pub few : length entries ≤ most
  pub each : Each P entries

-- The laws, over what is known of the bytes (B), so of a word (W), and so of what is read as a value or taken for an address (R).
record Known (B W R : ℕ → Type 0) : Type 0 where
  pub word_known : (bs : List ℕ) → length bs ≡ 4 → Each B bs → W (digits 256 bs)
  pub value_known : (v : ℕ) → W v → R (as_read v)
  pub address_known : (a : ℕ) → W a → a ≢ end_mark → R a

-- what the test of an address tells
address_passed : (low a : ℕ) → is_address low a ≡ true → (low < a) × (a ≢ end_mark)
address_passed low a e = by (ltb low a) (eqb a end_mark) (ltb-true low a) (eqb-false a end_mark) e
  where
    by : (s t : Bool) → (s ≡ true → low < a) → (t ≡ false → a ≢ end_mark) → (s && not t) ≡ true → (low < a) × (a ≢ end_mark)
    by true true f g e = absurd (false≢true e)
    by true false f g e = (f refl, g refl)
    by false t f g e = absurd (false≢true e)

module _ (B : ℕ → Type 0) where
  -- P of what is read, if something is, and B of the bytes left; a fault is a refusal's number
  abbrev Reads : {A : Type 0} → (A → Type 0) → Got A → Type 0
  Reads P (got a rest) = P a × Each B rest
  Reads P (fault n) = Number n

  abbrev Gives : {A : Type 0} → (A → Type 0) → Reader A → Type 0
  Gives P read = (bytes : List ℕ) → Each B bytes → Reads P (read bytes)

  onward_reads : {A C : Type 0} (P : A → Type 0) (Q : C → Type 0) (next : A → Reader C) (r : Got A) → Reads P r → ((a : A) → P a → Gives Q (next a)) → Reads Q (onward r next)
  onward_reads P Q next (got a rest) h k = k a h.0 rest h.1
  onward_reads P Q next (fault n) h k = h

  reads_map : {A : Type 0} (P Q : A → Type 0) (r : Got A) → ((a : A) → P a → Q a) → Reads P r → Reads Q r
  reads_map P Q (got a rest) f h = (f a h.0, h.1)
  reads_map P Q (fault n) f h = h

  chain : {A C : Type 0} (P : A → Type 0) (Q : C → Type 0) (read : Reader A) (next : A → Reader C) → Gives P read → ((a : A) → P a → Gives Q (next a)) → Gives Q (◌>>=◌ read next)
  chain P Q read next h k bytes b = onward_reads P Q next (read bytes) (h bytes b) k

  give_gives : {A : Type 0} (P : A → Type 0) (a : A) → P a → Gives P (give a)
  give_gives P a p bytes b = (p, b)

  ensure_gives : {A : Type 0} (P : A → Type 0) (t : Bool) (n : ℕ) (a : A) → Number n → (t ≡ true → P a) → Gives P (ensure t n a)
  ensure_gives P true n a number h bytes b = (h refl, b)
  ensure_gives P false n a number h bytes b = number

  byte_gives : (short : ℕ) → Number short → Gives B (byte short)
  byte_gives short number [] b = number
  byte_gives short number (x ∷ bytes) b = (each_head B x bytes b, λ a m. b a (Memᴰ.tail m))

  times_gives : {A : Type 0} (P : A → Type 0) (n : ℕ) (read : Reader A) → Gives P read → Gives (Entries P n) (times n read)
  unfolding times
  times_gives P zero read h = give_gives (Entries P 0) [] (record { count = refl; each = each_none P })
  times_gives P (suc n) read h =
      chain P (Entries P (suc n)) read _ h λ a p.
      chain (Entries P n) (Entries P (suc n)) (times n read) _ (times_gives P n read h) λ rest e.
      give_gives (Entries P (suc n)) (a ∷ rest) (record { count = ap suc e.count; each = each_more P a rest p e.each })

  counted_gives : {A : Type 0} (P : A → Type 0) (short range most : ℕ) (read : Reader A) → Number short → Number range → Gives P read → Gives (Few P most) (counted short range most read)
  unfolding counted
  counted_gives P short range most read number out h =
      chain B (Few P most) (byte short) _ (byte_gives short number) λ x _.
      chain (λ n. n ≤ most) (Few P most) (ensure (leb x most) range x) _ (ensure_gives (λ n. n ≤ most) (leb x most) range x out (leb-true x most)) λ n l bytes b.
      reads_map (Entries P n) (Few P most) (times n read bytes) (λ xs e. record { few = omega (arith, e.count); each = e.each }) (times_gives P n read h bytes b)

  -- ---- the rule set

  named_gives : (n : ℕ) → Gives (λ b. b < n) (named n)
  named_gives n = chain B (λ b. b < n) (byte _) _ (byte_gives _ (omega arith)) λ b _. ensure_gives (λ c. c < n) (ltb b n) _ b (omega arith) (ltb-true b n)

  abbrev AnyKind : Kind → Type 0
  AnyKind k = Unit {0}

  kind_of_gives : (b : ℕ) → Gives AnyKind (kind_of b)
  kind_of_gives zero bytes b = (tt, b)
  kind_of_gives (suc zero) bytes b = (tt, b)
  kind_of_gives (suc (suc k)) bytes b = omega arith

  kind_gives : Gives AnyKind kind
  kind_gives = chain B AnyKind (byte 1) _ (byte_gives 1 (omega arith)) λ b _. kind_of_gives b

  -- ---- over the constants of the rule set

  module _ (constants : List ℕ) where
    abbrev Scoped : ℕ → Term → Type 0
    Scoped n t = InScope (0 ∷ constants) n t

    term_of_gives : (n b : ℕ) → Gives (Scoped n) (term_of constants n b)
    term_of_gives n b = by (eqb b 255) (ltb b 128)
      where
        by : (c d : Bool)
            → Gives (Scoped n) (elim c as (λ _. Reader Term) [
              | true ↦ give (fixed 0)
              | false ↦ elim d as (λ _. Reader Term) [
                | true ↦ ensure (ltb b n) 3 (var b)
                | false ↦ ensure (ltb (b - 128) (length constants)) 3 (fixed (get_or constants (b - 128) 0))
              ]
            ])
        by true d = give_gives (Scoped n) (fixed 0) (Memᴰ.head refl)
        by false true = ensure_gives (Scoped n) (ltb b n) 3 (var b) (omega arith) (ltb-true b n)
        by false false =
            ensure_gives (Scoped n) (ltb (b - 128) (length constants)) 3 (fixed (get_or constants (b - 128) 0)) (omega arith)
            (λ e. Memᴰ.tail (get_d_in constants (b - 128) (ltb-true (b - 128) (length constants) e)))

    term_gives : (n : ℕ) → Gives (Scoped n) (term constants n)
    term_gives n = chain B (Scoped n) (byte 1) _ (byte_gives 1 (omega arith)) λ b _. term_of_gives n b

    record PureRead (n : ℕ) (p : Pure) : Type 0 where
      pub left : Scoped n p.left
      pub right : Scoped n p.right

    pure_gives : (n : ℕ) → Gives (PureRead n) (pure constants n)
    pure_gives n =
        chain AnyKind (PureRead n) kind _ kind_gives λ k _.
        chain (Scoped n) (PureRead n) (term constants n) _ (term_gives n) λ l hl.
        chain (Scoped n) (PureRead n) (term constants n) _ (term_gives n) λ r hr.
        give_gives (PureRead n) _ (record { left = hl; right = hr })

    record AtomRead (n : ℕ) (c : PointsTo) : Type 0 where
      pub address : c.address < n
      pub fields : Few (Scoped n) 4 c.fields

    atom_gives : (n : ℕ) → Gives (AtomRead n) (atom constants n)
    atom_gives n =
        chain (λ a. a < n) (AtomRead n) (named n) _ (named_gives n) λ a ha.
        chain (Few (Scoped n) 4) (AtomRead n) (counted 1 2 4 (term constants n)) _ (counted_gives (Scoped n) 1 2 4 (term constants n) (omega arith) (omega arith) (term_gives n)) λ ts ht.
        give_gives (AtomRead n) _ (record { address = ha; fields = ht })

    record CallRead (arities : List ℕ) (n : ℕ) (c : Call) : Type 0 where
      pub named : c.predicate < length arities
      pub arguments : Entries (Scoped n) (get_or arities c.predicate 0) c.arguments

    call_gives : (arities : List ℕ) (n : ℕ) → Gives (CallRead arities n) (call arities constants n)
    call_gives arities n =
        chain (λ a. a < length arities) (CallRead arities n) (named (length arities)) _ (named_gives (length arities)) λ p hp.
        chain (Entries (Scoped n) (get_or arities p 0)) (CallRead arities n) (times (get_or arities p 0) (term constants n)) _ (times_gives (Scoped n) (get_or arities p 0) (term constants n) (term_gives n)) λ ts ht.
        give_gives (CallRead arities n) _ (record { named = hp; arguments = ht })

    record RuleRead (arities : List ℕ) (r : Rule) : Type 0 where
      pub head : r.head < length arities
      pub few : get_or arities r.head 0 + r.bound ≤ 8
      pub pures : Few (PureRead (get_or arities r.head 0 + r.bound)) 8 r.pures
      pub points_to : Few (AtomRead (get_or arities r.head 0 + r.bound)) 4 r.points_to
      pub calls : Few (CallRead arities (get_or arities r.head 0 + r.bound)) 3 r.calls

    body_gives : (arities : List ℕ) (h b n : ℕ) → h < length arities → n ≡ get_or arities h 0 + b → n ≤ 8 → Gives (RuleRead arities) (body arities constants h b n)
    body_gives arities h b n hh e l =
        chain (Few (PureRead n) 8) (RuleRead arities) (counted 1 2 8 (pure constants n)) _ (counted_gives (PureRead n) 1 2 8 (pure constants n) (omega arith) (omega arith) (pure_gives n)) λ ps hp.
        chain (Few (AtomRead n) 4) (RuleRead arities) (counted 1 2 4 (atom constants n)) _ (counted_gives (AtomRead n) 1 2 4 (atom constants n) (omega arith) (omega arith) (atom_gives n)) λ cs hc.
        chain (Few (CallRead arities n) 3) (RuleRead arities) (counted 1 2 3 (call arities constants n)) _ (counted_gives (CallRead arities n) 1 2 3 (call arities constants n) (omega arith) (omega arith) (call_gives arities n)) λ ds hd.
        give_gives (RuleRead arities) _ (record { head = hh; few = omega arith; pures = rw (← e) hp; points_to = rw (← e) hc; calls = rw (← e) hd })

    rule_gives : (arities : List ℕ) → Gives (RuleRead arities) (rule arities constants)
    rule_gives arities =
        chain (λ a. a < length arities) (RuleRead arities) (named (length arities)) _ (named_gives (length arities)) λ h hh.
        chain B (RuleRead arities) (byte 1) _ (byte_gives 1 (omega arith)) λ b _.
        chain (λ n. (n ≡ get_or arities h 0 + b) × (n ≤ 8)) (RuleRead arities) (ensure (leb (get_or arities h 0 + b) 8) 2 (get_or arities h 0 + b)) _
        (ensure_gives (λ n. (n ≡ get_or arities h 0 + b) × (n ≤ 8)) (leb (get_or arities h 0 + b) 8) 2 (get_or arities h 0 + b) (omega arith) (λ e. (refl, leb-true (get_or arities h 0 + b) 8 e))) λ n hn.
        body_gives arities h b n hh hn.0 hn.1

  arguments_gives : Gives (λ a. a ≤ 4) arguments
  arguments_gives = chain B (λ a. a ≤ 4) (byte 1) _ (byte_gives 1 (omega arith)) λ b _. ensure_gives (λ a. a ≤ 4) (leb b 4) 2 b (omega arith) (leb-true b 4)

  record AritiesRead (arities : List ℕ) : Type 0 where
    pub some : 1 ≤ length arities
    pub few : length arities ≤ 8
    pub each : Each (λ a. a ≤ 4) arities

  predicates_gives : Gives AritiesRead predicates
  predicates_gives =
      chain B AritiesRead (byte 1) _ (byte_gives 1 (omega arith)) λ x _.
      chain (λ n. 1 ≤ n) AritiesRead (ensure (leb 1 x) 2 x) _ (ensure_gives (λ n. 1 ≤ n) (leb 1 x) 2 x (omega arith) (leb-true 1 x)) λ l hl.
      chain (λ n. (1 ≤ n) × (n ≤ 8)) AritiesRead (ensure (leb l 8) 2 l) _ (ensure_gives (λ n. (1 ≤ n) × (n ≤ 8)) (leb l 8) 2 l (omega arith) (λ e. (hl, leb-true l 8 e))) λ n hn bytes b.
      reads_map (Entries (λ a. a ≤ 4) n) AritiesRead (times n arguments bytes)
      (λ xs e. record { some = omega (arith, e.count, hn.0); few = omega (arith, e.count, hn.1); each = e.each }) (times_gives (λ a. a ≤ 4) n arguments arguments_gives bytes b)

  small_entry : (xs : List ℕ) → Each (λ x. x ≤ 4) xs → (i : ℕ) → get_or xs i 0 ≤ 4
  small_entry [] h i = omega arith
  small_entry (x ∷ xs) h zero = h x (Memᴰ.head refl)
  small_entry (x ∷ xs) h (suc i) = small_entry xs (λ y m. h y (Memᴰ.tail m)) i

  rule_formed : (r : RuleSet) (one : Rule) → RuleRead r.constants r.arities one → WellFormedRule r one
  rule_formed r one w = record {
    head_named = w.head;
    variables_few = w.few;
    pures_few = w.pures.few;
    pures_left = λ p m. (w.pures.each p m).left;
    pures_right = λ p m. (w.pures.each p m).right;
    atoms_few = w.points_to.few;
    atoms_address = λ c m. (w.points_to.each c m).address;
    fields_few = λ c m. (w.points_to.each c m).fields.few;
    atoms_fields = λ c m t k. (w.points_to.each c m).fields.each t k;
    calls_few = w.calls.few;
    calls_named = λ c m. (w.calls.each c m).named;
    calls_counted = λ c m. (w.calls.each c m).arguments.count;
    calls_scoped = λ c m t k. (w.calls.each c m).arguments.each t k;
  }

  -- ---- with what is known of values: constants and so the rule set, the snapshot, the query

  module _ (W R : ℕ → Type 0) (known : Known B W R) where
    word_gives : (short : ℕ) → Number short → Gives W (word short)
    unfolding word
    word_gives short number =
        chain (Entries B 4) W (times 4 (byte short)) _ (times_gives B 4 (byte short) (byte_gives short number)) λ bs e.
        give_gives W (digits 256 bs) (known.word_known bs e.count e.each)

    value_gives : (short : ℕ) → Number short → Gives R (value short)
    value_gives short number = chain W R (word short) _ (word_gives short number) λ v p. give_gives R (as_read v) (known.value_known v p)

    record RuleSetRead (r : RuleSet) : Type 0 where
      pub formed : WellFormed r
      pub constants : Each R r.constants

    rule_set_gives : Gives RuleSetRead rule_set
    rule_set_gives =
        chain AritiesRead RuleSetRead predicates _ predicates_gives λ arities ha.
        chain (Few R _) RuleSetRead constants _ (counted_gives R 1 2 _ (value 1) (omega arith) (omega arith) (value_gives 1 (omega arith))) λ cs hc.
        chain (Few (RuleRead cs arities) 16) RuleSetRead (counted 1 2 16 (rule arities cs)) _
        (counted_gives (RuleRead cs arities) 1 2 16 (rule arities cs) (omega arith) (omega arith) (rule_gives cs arities)) λ rules hr.
        give_gives RuleSetRead _ (record {
          formed = record {
            predicates_some = ha.some;
            predicates_few = ha.few;
            arguments_few = small_entry arities ha.each;
            constants_few = hc.few;
            rules_few = hr.few;
            each = λ one m. rule_formed (record { arities = arities; constants = cs; rules = rules }) one (hr.each one m);
          };
          constants = hc.each;
        })

    record AddressRead (low a : ℕ) : Type 0 where
      pub above : low < a
      pub known_value : R a

    address_gives : (low : ℕ) → Gives (AddressRead low) (address low)
    address_gives low =
        chain W (AddressRead low) (word 5) _ (word_gives 5 (omega arith)) λ a p.
        ensure_gives (AddressRead low) (is_address low a) 7 a (omega arith) (λ e. let h = address_passed low a e in record { above = h.0; known_value = known.address_known a p h.1 })

    record HeapRead (n low : ℕ) (heap : Heap) : Type 0 where
      pub count : length heap ≡ n
      pub above : Above low heap
      pub fields : Each (λ (here : Record). length here.fields ≤ 4) heap
      pub values : Each R (heap_values heap)

    record_values_lem : (a : ℕ) (fs : List ℕ) (heap : Heap) → R a → Each R fs → Each R (heap_values heap) → Each R (heap_values (record { address = a; fields = fs } ∷ heap))
    unfolding heap_values
    record_values_lem a fs heap p hf hm v m = ⊎_elim (each_more R a fs p hf v) (hm v) (Memᴰ.append_cases (a ∷ fs) m)

    records_gives : (n low : ℕ) → Gives (HeapRead n low) (records n low)
    unfolding records heap_values
    records_gives zero low = give_gives (HeapRead 0 low) [] (record { count = refl; above = Above.none; fields = each_none _; values = each_none R })
    records_gives (suc n) low =
        chain (AddressRead low) (HeapRead (suc n) low) (address low) _ (address_gives low) λ a ha.
        chain (Few R 4) (HeapRead (suc n) low) (counted 5 6 4 (value 5)) _ (counted_gives R 5 6 4 (value 5) (omega arith) (omega arith) (value_gives 5 (omega arith))) λ fs hf.
        chain (HeapRead n a) (HeapRead (suc n) low) (records n a) _ (records_gives n a) λ more hm.
        give_gives (HeapRead (suc n) low) _ (record {
          count = ap suc hm.count;
          above = Above.next ha.above hm.above;
          fields = each_more (λ (here : Record). length here.fields ≤ 4) _ more hf.few hm.fields;
          values = record_values_lem a fs more ha.known_value hf.each hm.values;
        })

    record SnapshotRead (heap : Heap) : Type 0 where
      pub formed : WellFormedHeap heap
      pub values : Each R (heap_values heap)

    snapshot_gives : Gives SnapshotRead snapshot
    snapshot_gives =
        chain B SnapshotRead (byte 5) _ (byte_gives 5 (omega arith)) λ x _.
        chain (λ n. n ≤ 16) SnapshotRead (ensure (leb x 16) 6 x) _ (ensure_gives (λ n. n ≤ 16) (leb x 16) 6 x (omega arith) (leb-true x 16)) λ n l bytes b.
        reads_map (HeapRead n 0) SnapshotRead (records n 0 bytes)
        (λ p h. record { formed = record { records_few = omega (arith, h.count); ordered = h.above; fields_few = h.fields }; values = h.values }) (records_gives n 0 bytes b)

    record QueryRead (arities : List ℕ) (q : Query) : Type 0 where
      pub named : q.predicate < length arities
      pub counted : length q.values ≡ get_or arities q.predicate 0
      pub values : Each R q.values

    query_gives : (arities : List ℕ) → Gives (QueryRead arities) (query arities)
    query_gives arities =
        chain B (QueryRead arities) (byte 9) _ (byte_gives 9 (omega arith)) λ b _.
        chain (λ p. p < length arities) (QueryRead arities) (ensure (ltb b (length arities)) 9 b) _
        (ensure_gives (λ p. p < length arities) (ltb b (length arities)) 9 b (omega arith) (ltb-true b (length arities))) λ p hp.
        chain B (QueryRead arities) (byte 9) _ (byte_gives 9 (omega arith)) λ c _.
        chain (λ n. n ≡ get_or arities p 0) (QueryRead arities) (ensure (eqb c (get_or arities p 0)) 9 c) _
        (ensure_gives (λ n. n ≡ get_or arities p 0) (eqb c (get_or arities p 0)) 9 c (omega arith) (eqb-true c (get_or arities p 0))) λ n hn.
        chain (Entries R n) (QueryRead arities) (times n (value 9)) _ (times_gives R n (value 9) (value_gives 9 (omega arith))) λ vs hv.
        give_gives (QueryRead arities) _ (record { named = hp; counted = hv.count ∙ hn; values = hv.each })

-- ---- the ladder

abbrev Yields : {A : Type 0} → (A → Type 0) → Result A → Type 0
Yields P (accepted a) = P a
Yields P (refused n) = Number n

all_yields : {A : Type 0} (B : ℕ → Type 0) (P : A → Type 0) (more : ℕ) (r : Got A) → Number more → Reads B P r → Yields P (all more r)
all_yields B P more (got a []) number h = h.0
all_yields B P more (got a (b ∷ bytes)) number h = number
all_yields B P more (fault n) number h = h

then_yields : {A C : Type 0} (P : A → Type 0) (Q : C → Type 0) (next : A → Result C) (r : Result A) → Yields P r → ((a : A) → P a → Yields Q (next a)) → Yields Q (and_then r next)
then_yields P Q next (accepted a) h k = k a h
then_yields P Q next (refused n) h k = h

-- what is known of what is accepted
record LadderRead (R : ℕ → Type 0) (i : Input) : Type 0 where
  pub formed : WellFormedInput i
  pub constants : Each R i.rule_set.constants
  pub heap_values_lem : Each R (heap_values i.heap)
  pub query_values_lem : Each R i.values

module _ (B W R : ℕ → Type 0) (known : Known B W R) where
  ladder_yields : (b s q : List ℕ) → Each B b → Each B s → Each B q → Yields (LadderRead R) (ladder b s q)
  unfolding ladder read_rule_set read_snapshot read_query
  ladder_yields b s q eb es eq =
      then_yields (RuleSetRead B W R known) (LadderRead R) _ (read_rule_set b) (all_yields B (RuleSetRead B W R known) _ (rule_set b) (omega arith) (rule_set_gives B W R known b eb)) λ r hr.
      then_yields (SnapshotRead B W R known) (LadderRead R) _ (read_snapshot s) (all_yields B (SnapshotRead B W R known) _ (snapshot s) (omega arith) (snapshot_gives B W R known s es)) λ h hh.
      then_yields (QueryRead B W R known r.arities) (LadderRead R) _ (read_query r.arities q) (all_yields B (QueryRead B W R known r.arities) _ (query r.arities q) (omega arith) (query_gives B W R known r.arities q eq)) λ qu hq.
      record {
        formed = record {
          valid = record { rules_formed = hr.formed; heap_formed = hh.formed; values_few = omega (arith, hq.counted, hr.formed.arguments_few qu.predicate) };
          named = hq.named;
          counted = hq.counted;
        };
        constants = hr.constants;
        heap_values_lem = hh.values;
        query_values_lem = hq.values;
      }

abbrev Any : ℕ → Type 0
Any n = Unit {0}

any_known : Known Any Any Any
any_known = record { word_known = λ bs e h. tt; value_known = λ v h. tt; address_known = λ a h n. tt }

any : (xs : List ℕ) → Each Any xs
any xs a m = tt

-- What is read is well formed, within every size, and in order.
pub ladder_read : (b s q : List ℕ) (i : Input) → ladder b s q ≡ accepted i → WellFormedInput i
ladder_read b s q i e = let h : LadderRead Any i = rw e at (ladder_yields Any Any Any any_known b s q (any b) (any s) (any q)) in h.formed

-- A refusal by the ladder is one of 1 to 9.
pub ladder-number : (b s q : List ℕ) (n : ℕ) → ladder b s q ≡ refused n → Number n
ladder-number b s q n e = rw e at (ladder_yields Any Any Any any_known b s q (any b) (any s) (any q))

-- Of bytes below 256, what is read has values below 2 ^ 32.
abbrev Byte : ℕ → Type 0
Byte b = b < 256

abbrev Value : ℕ → Type 0
Value v = v < 4294967296

-- Read as a value, a number is nil or what it was.
read_either : (P : ℕ → Type 0) (v : ℕ) → P 0 → (v ≢ end_mark → P v) → P (as_read v)
read_either P v zeroed kept = by (eqb v end_mark) (eqb-false v end_mark)
  where
    by : (t : Bool) → (t ≡ false → v ≢ end_mark) → P (elim t as (λ _. ℕ) [ true ↦ 0 | false ↦ v ])
    by true f = zeroed
    by false f = kept (f refl)

byte_known : Known Byte Value Value
byte_known = record {
  word_known = λ bs e h. omega (arith, digits_below 256 4 bs (omega arith) (omega arith) h);
  value_known = λ v h. read_either Value v (omega arith) (λ n. h);
  address_known = λ a h n. h;
}

pub ladder_values : (b s q : List ℕ) → ((x : ℕ) → x among b → x < 256) → ((x : ℕ) → x among s → x < 256) → ((x : ℕ) → x among q → x < 256) → (i : Input) → ladder b s q ≡ accepted i
    → ((v : ℕ) → v among i.rule_set.constants → v < 4294967296) × ((v : ℕ) → v among heap_values i.heap → v < 4294967296)
    × ((v : ℕ) → v among i.values → v < 4294967296)
ladder_values b s q eb es eq i e =
    let h : LadderRead Value i = rw e at (ladder_yields Byte Value Value byte_known b s q eb es eq) in
    (h.constants, h.heap_values_lem, h.query_values_lem)

-- Of any bytes, the end mark is no value that is read.
abbrev Unmarked : ℕ → Type 0
Unmarked v = v ≢ end_mark

mark_known : Known Any Any Unmarked
mark_known = record { word_known = λ bs e h. tt; value_known = λ v h. read_either Unmarked v (λ e. omega arith) (λ n. n); address_known = λ a h n. n }

pub ladder_unmarked : (b s q : List ℕ) (i : Input) → ladder b s q ≡ accepted i
    → (¬ (end_mark among i.rule_set.constants)) × (¬ (end_mark among heap_values i.heap)) × (¬ (end_mark among i.values))
ladder_unmarked b s q i e =
    let h : LadderRead Unmarked i = rw e at (ladder_yields Any Any Unmarked mark_known b s q (any b) (any s) (any q)) in
    (λ m. h.constants end_mark m refl, λ m. h.heap_values_lem end_mark m refl, λ m. h.query_values_lem end_mark m refl)
