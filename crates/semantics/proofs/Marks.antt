-- Nil may be written in either way where a value stands: up to such a place both readings do the same, there both read 0, and what comes
-- after is the same bytes. So the ladder has one result for both, and a contract knows its bytes by the ladder alone.
use mathlib.Core.{Bool.Bool, Bool.true, Bool.false, Path.◌≡◌, Path.refl, Path.sym, Path.ap, Path.subst, Path.fun_ext, Path.◌∙◌}
use mathlib.Core.List.{List, [], ◌∷◌, ◌++◌, append_assoc}
use Prim.Native.Nat.{ℕ, zero, suc, ◌*◌, ◌<◌}
use native.Mathlib.Omega.{arith}
use lib.{ListN.length, ListN.get_or, Dec.eqb, Dec.leb, Dec.ltb}
use Rattle.semantics.specs.{Lists.digits, RuleSet.RuleSet, Heap.Heap, Served.Served}
use Rattle.semantics.specs.Reader.{Got, got, fault, Reader, onward, give, ensure, times, counted, word, Result, accepted, and_then, all}
use Rattle.semantics.specs.Formats.{as_read, is_address, arguments, rule_set, read_rule_set, value, records, read_snapshot, Query, read_query, Input, ladder}
use Rattle.semantics.specs.Marks.{as_zero, as_mark, ValueDue, AtConstant, AtValue, AtFieldOf, AtField, Respelled}
use Rattle.semantics.specs.Contract.{Decided, Found, Checked, CheckedPart, DeskDecided, DeskChecked}
use Rattle.semantics.specs.Walk.{Walked}
use Rattle.semantics.specs.declared.{Reply.Reply, PartReply.PartReply, CheckReply.CheckReply, WalkReply.WalkReply}

-- ---- two readings that do the same

-- They give the same and leave these bytes, or meet the same fault.
data Alike {A : Type 0} (xs ys : List ℕ) : Got A → Got A → Type 0 where
  both : (a : A) → Alike xs ys (got a xs) (got a ys)
  stop : (n : ℕ) → Alike xs ys (fault n) (fault n)

-- what follows does the same, if it does so on the bytes left
then_same : {A C : Type 0} {xs ys : List ℕ} {r s : Got A} (next : A → Reader C) → Alike xs ys r s → ((a : A) → next a xs ≡ next a ys) → onward r next ≡ onward s next
then_same next (Alike.both a) h = h a
then_same next (Alike.stop n) h = refl

on_same : {A C : Type 0} {r s : Got A} (next : A → Reader C) → r ≡ s → onward r next ≡ onward s next
on_same {A} next e = ap (λ (g : Got A). onward g next) e

then_give : {A C : Type 0} {xs ys : List ℕ} {r s : Got A} (f : A → C) → Alike xs ys r s → Alike xs ys (onward r (λ a. give (f a))) (onward s (λ a. give (f a)))
then_give f (Alike.both a) = Alike.both (f a)
then_give f (Alike.stop n) = Alike.stop n

-- a test of what both have read
test_same : {A C : Type 0} (xs ys : List ℕ) (t : Bool) (n : ℕ) (a : A) (next : A → Reader C) → next a xs ≡ next a ys
    → onward (ensure t n a xs) next ≡ onward (ensure t n a ys) next
test_same xs ys true n a next h = h
test_same xs ys false n a next h = refl

test_alike : {A C : Type 0} {xs ys : List ℕ} (us vs : List ℕ) (t : Bool) (n : ℕ) (a : A) (next : A → Reader C) → Alike xs ys (next a us) (next a vs)
    → Alike xs ys (onward (ensure t n a us) next) (onward (ensure t n a vs) next)
test_alike us vs true n a next h = h
test_alike us vs false n a next h = Alike.stop n

-- ---- before the place

-- argument counts
arguments_alike : (xs ys counts : List ℕ) → Alike xs ys (times (length counts) arguments (counts ++ xs)) (times (length counts) arguments (counts ++ ys))
unfolding times
arguments_alike xs ys [] = Alike.both []
arguments_alike xs ys (a ∷ counts) =
    test_alike (counts ++ xs) (counts ++ ys) (leb a 4) 2 a _ (then_give (λ (rest : List ℕ). a ∷ rest) (arguments_alike xs ys counts))

-- all values of a record
values_alike : (xs ys : List ℕ) (short count : ℕ) (values : List ℕ) → length values ≡ 4 * count
    → Alike xs ys (times count (value short) (values ++ xs)) (times count (value short) (values ++ ys))
unfolding times word
values_alike xs ys short zero [] e = Alike.both []
values_alike xs ys short zero (a ∷ values) e = absurd (omega arith)
values_alike xs ys short (suc k) (a ∷ (b ∷ (c ∷ (d ∷ values)))) e = then_give (λ (rest : List ℕ). as_read (digits 256 (a ∷ b ∷ c ∷ d ∷ [])) ∷ rest) (values_alike xs ys short k values (omega arith))
values_alike xs ys short (suc k) (a ∷ (b ∷ (c ∷ []))) e = absurd (omega arith)
values_alike xs ys short (suc k) (a ∷ (b ∷ [])) e = absurd (omega arith)
values_alike xs ys short (suc k) (a ∷ []) e = absurd (omega arith)
values_alike xs ys short (suc k) [] e = absurd (omega arith)

-- ---- the place

module _ (back : List ℕ) where
  abbrev zeroed : List ℕ
  zeroed = as_zero ++ back

  abbrev marked : List ℕ
  marked = as_mark ++ back

  -- a value among others
  value_same : (short before count : ℕ) (values : List ℕ) → length values ≡ 4 * before → before < count
      → times count (value short) (values ++ zeroed) ≡ times count (value short) (values ++ marked)
  unfolding times word digits
  value_same short before zero values e l = absurd (omega arith)
  value_same short zero (suc k) [] e l = refl
  value_same short zero (suc k) (a ∷ values) e l = absurd (omega arith)
  value_same short (suc m) (suc k) (a ∷ (b ∷ (c ∷ (d ∷ values)))) e l =
      on_same _ (value_same short m k values (omega arith) (omega arith))
  value_same short (suc m) (suc k) (a ∷ (b ∷ (c ∷ []))) e l = absurd (omega arith)
  value_same short (suc m) (suc k) (a ∷ (b ∷ [])) e l = absurd (omega arith)
  value_same short (suc m) (suc k) (a ∷ []) e l = absurd (omega arith)
  value_same short (suc m) (suc k) [] e l = absurd (omega arith)

  counted_same : (short range most : ℕ) (front : List ℕ) → ValueDue front
      → counted short range most (value short) (front ++ zeroed) ≡ counted short range most (value short) (front ++ marked)
  unfolding counted
  counted_same short range most front c =
      rw c.is_front
      (test_same (c.values ++ zeroed) (c.values ++ marked) (leb c.count most) range c.count (λ n. times n (value short))
      (value_same short c.before c.count c.values c.whole c.fewer))

  -- a constant of a book
  book_same : (counts listed : List ℕ) → ValueDue listed
      → rule_set (length counts ∷ (counts ++ (listed ++ zeroed))) ≡ rule_set (length counts ∷ (counts ++ (listed ++ marked)))
  book_same counts listed next =
      then_same _
      (test_alike (counts ++ (listed ++ zeroed)) (counts ++ (listed ++ marked)) (leb 1 (length counts)) 2 (length counts) _
      (test_alike (counts ++ (listed ++ zeroed)) (counts ++ (listed ++ marked)) (leb (length counts) 8) 2 (length counts) _
      (arguments_alike (listed ++ zeroed) (listed ++ marked) counts)))
      (λ arities. on_same _ (counted_same 1 2 8 listed next))

  constant_same : (front : List ℕ) → AtConstant front → read_rule_set (front ++ zeroed) ≡ read_rule_set (front ++ marked)
  unfolding read_rule_set
  constant_same front at =
      rw (at.is_front, append_assoc at.arguments at.listed zeroed, append_assoc at.arguments at.listed marked)
      (ap (all 4) (book_same at.arguments at.listed at.next))

  -- a value of a question
  query_same : (arities front : List ℕ) → AtValue front → read_query arities (front ++ zeroed) ≡ read_query arities (front ++ marked)
  unfolding read_query
  query_same arities front at =
      rw (at.is_front, at.next.is_front)
      (ap (all 9)
      (test_same (_ ∷ (at.next.values ++ zeroed)) (_ ∷ (at.next.values ++ marked)) (ltb at.predicate (length arities)) 9 at.predicate _
      (test_same (at.next.values ++ zeroed) (at.next.values ++ marked) (eqb at.next.count (get_or arities at.predicate 0)) 9 at.next.count _
      (on_same _ (value_same 9 at.next.before at.next.count at.next.values at.next.whole at.next.fewer)))))

  -- a field of a record
  field_of_same : (n low : ℕ) (front : List ℕ) → AtFieldOf n front → records n low (front ++ zeroed) ≡ records n low (front ++ marked)
  unfolding records counted word times
  field_of_same zero low _ at = elim at [ ]
  field_of_same (suc n) low _ (AtFieldOf.here a b c d fields next) =
      test_same (fields ++ zeroed) (fields ++ marked) (is_address low (digits 256 (a ∷ b ∷ c ∷ d ∷ []))) 7 (digits 256 (a ∷ b ∷ c ∷ d ∷ [])) _
      (on_same _ (counted_same 5 6 4 fields next))
  field_of_same (suc n) low _ (AtFieldOf.later a b c d count fields front e next) =
      rw (append_assoc fields front zeroed, append_assoc fields front marked)
      (test_same (count ∷ (fields ++ (front ++ zeroed))) (count ∷ (fields ++ (front ++ marked))) (is_address low (digits 256 (a ∷ b ∷ c ∷ d ∷ []))) 7 (digits 256 (a ∷ b ∷ c ∷ d ∷ [])) _
      (then_same _
      (test_alike (fields ++ (front ++ zeroed)) (fields ++ (front ++ marked)) (leb count 4) 6 count (λ n. times n (value 5)) (values_alike (front ++ zeroed) (front ++ marked) 5 count fields e))
      (λ fs. on_same _ (field_of_same n (digits 256 (a ∷ b ∷ c ∷ d ∷ [])) front next))))

  field_same : (front : List ℕ) → AtField front → read_snapshot (front ++ zeroed) ≡ read_snapshot (front ++ marked)
  unfolding read_snapshot
  field_same front at =
      rw at.is_front
      (ap (all 8)
      (test_same (at.records ++ zeroed) (at.records ++ marked) (leb at.count 16) 6 at.count (λ n. records n 0) (field_of_same at.count 0 at.records at.next)))

-- ---- any number of places

respelled : {A : Type 0} {Place : List ℕ → Type 0} {bytes bytes' : List ℕ} (read : List ℕ → A)
    → ((back front : List ℕ) → Place front → read (front ++ (as_zero ++ back)) ≡ read (front ++ (as_mark ++ back))) → Respelled Place bytes bytes' → read bytes ≡ read bytes'
respelled read h Respelled.same = refl
respelled read h (Respelled.marked front back at r) = respelled read h r ∙ h back front at
respelled read h (Respelled.unmarked front back at r) = respelled read h r ∙ sym (h back front at)

-- The ladder over what was read of each.
abbrev over : Result RuleSet → Result Heap → (List ℕ → Result Query) → Result Input
over b s q =
    and_then b (λ r.
    and_then s (λ h.
    and_then (q r.arities) (λ (qu : Query).
    accepted (record { rule_set = r; heap = h; predicate = qu.predicate; values = qu.values }))))

module _ {book snapshot question book' snapshot' question' : List ℕ} (in-book : Respelled AtConstant book book') (in-snapshot : Respelled AtField snapshot snapshot')
    (in-question : Respelled AtValue question question') where
  pub marks_as_nil : ladder book snapshot question ≡ ladder book' snapshot' question'
  unfolding ladder
  marks_as_nil =
      ap (λ (b : Result RuleSet). over b (read_snapshot snapshot) (λ a. read_query a question)) (respelled read_rule_set constant_same in-book)
      ∙ ap (λ (s : Result Heap). over (read_rule_set book') s (λ a. read_query a question)) (respelled read_snapshot field_same in-snapshot)
      ∙ ap (λ (q : List ℕ → Result Query). over (read_rule_set book') (read_snapshot snapshot') q)
      (fun_ext (λ arities. respelled (read_query arities) (λ back. query_same back arities) in-question))

  served_as_nil : {Lends : Type 0} {Refuses : ℕ → Type 0} {Answered : Input → Type 0}
      → Served (λ (r : Result Input). ladder book snapshot question ≡ r) Lends Refuses Answered
      → Served (λ (r : Result Input). ladder book' snapshot' question' ≡ r) Lends Refuses Answered
  served_as_nil {Lends} {Refuses} {Answered} s = subst (λ (l : Result Input). Served (λ (r : Result Input). l ≡ r) Lends Refuses Answered) marks_as_nil s

  pub decided_as_nil : {table space : List ℕ} {r : Reply} {t x : List ℕ} → Decided book snapshot question table space r t x
      → Decided book' snapshot' question' table space r t x
  decided_as_nil = served_as_nil

  pub found_as_nil : {table space : List ℕ} {r : PartReply} {t x : List ℕ} → Found book snapshot question table space r t x
      → Found book' snapshot' question' table space r t x
  found_as_nil = served_as_nil

  pub checked_as_nil : {words : List ℕ} {r : CheckReply} → Checked book snapshot question words r → Checked book' snapshot' question' words r
  checked_as_nil = served_as_nil

  pub checked_part_as_nil : {part : ℕ} {words : List ℕ} {r : CheckReply} → CheckedPart book snapshot question part words r
      → CheckedPart book' snapshot' question' part words r
  checked_part_as_nil = served_as_nil

  pub walked_as_nil : {r : WalkReply} → Walked book snapshot question r → Walked book' snapshot' question' r
  walked_as_nil = served_as_nil

  pub desk_decided_as_nil : {n : ℕ} → DeskDecided book snapshot question n → DeskDecided book' snapshot' question' n
  desk_decided_as_nil d =
      record { reply = d.reply; table = d.table; space = d.space; decided = decided_as_nil d.decided; is_number = d.is_number }

  pub desk_checked_as_nil : {bytes : List ℕ} {n : ℕ} → DeskChecked book snapshot question bytes n → DeskChecked book' snapshot' question' bytes n
  desk_checked_as_nil = served_as_nil
