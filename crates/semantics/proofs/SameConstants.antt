-- Constants matter by their values alone: what is said of a rule set is said of each that lists the same ones in another way.
use mathlib.Core.{Path.◌≡◌, Path.refl, Path.sym, Path.ap, Path.◌∙◌, Logic.◌↔◌, Logic.⊎_elim}
use mathlib.Core.List.Memᴰ
use mathlib.Core.List.{List, ◌∷◌}
use Prim.Native.Nat.{ℕ}
use Rattle.semantics.specs.{Lists.◌among◌, RuleSet.Term, RuleSet.Rule, RuleSet.RuleSet, RuleSet.fixed_values, SameConstants.SameRules, Heap.Heap}
use Rattle.semantics.specs.{Reader.Result, Reader.accepted, Reader.refused, Reader.and_then, Served.Served}
use Rattle.semantics.specs.Formats.{Query, Input, read_rule_set, read_snapshot, read_query, ladder}
use Rattle.semantics.specs.{Tree.ByHand, Tree.Fits, Rounds.Ground, Plain.Fixed, Plain.Plain}
use Rattle.semantics.specs.Walk.{Walks, Walked}
use Rattle.semantics.specs.Certificate.{LineHolds, Certificate, Trimmed}
use Rattle.semantics.specs.Contract.{domain_of, FitsInput, SomeFits, CertificatePart, CertificateInput, Answers, Finds, Checks, DeskTakes}
use Rattle.semantics.specs.Contract.{DeskChecks, Decided, Found, Checked, CheckedPart, DeskDecided, DeskChecked}
use Rattle.semantics.proofs.SameGrounds.{SameGrounds, more_same, filled_same}
use Rattle.semantics.proofs.ServedFacts.{computed, clash}
use Rattle.semantics.proofs.{SameDomain.same_domain, MoreRules.applies_more, MoreRules.part_more, MoreRules.fits_more}
use Rattle.semantics.specs.declared.{Reply.Reply, PartReply.PartReply, CheckReply.CheckReply, WalkReply.WalkReply}

-- ---- what is said of a rule set

module _ {a b : RuleSet} (same : SameRules a b) where
  exchanged : SameRules b a
  exchanged = record { arities = sym same.arities; rules = sym same.rules; fixed = λ v. ((same.fixed v).1, (same.fixed v).0) }

  kept : (rule : Rule) → rule among a.rules → rule among b.rules
  kept rule m = rw same.rules at m

  part_same : {heap : Heap} {p : ℕ} {vs : List ℕ} {part : ℕ} → ByHand a heap p vs part → ByHand b heap p vs part
  part_same {heap} = part_more a b heap same.arities kept

  fits_same : {heap : Heap} {p : ℕ} {vs : List ℕ} → Fits a heap p vs → Fits b heap p vs
  fits_same {heap} = fits_more a b heap same.arities kept

  -- plainness
  fixed_same : {rule : Rule} {term : Term} → Fixed a rule term → Fixed b rule term
  fixed_same Fixed.fixed_value = Fixed.fixed_value
  fixed_same (Fixed.of_head h) = Fixed.of_head (rw same.arities at h)
  fixed_same (Fixed.to_right m f) = Fixed.to_right m (fixed_same f)
  fixed_same (Fixed.to_left m f) = Fixed.to_left m (fixed_same f)
  fixed_same (Fixed.of_field m k f) = Fixed.of_field m k (fixed_same f)

  plain_same : Plain a → Plain b
  plain_same plain = record {
    consuming = rw same.rules at plain.consuming;
    all_fixed = λ rule m v h. fixed_same (plain.all_fixed rule (rw (← same.rules) at m) v (rw (← same.arities) at h));
    exclusive = rw (same.rules, same.arities) at plain.exclusive;
  }

  -- ground instances and certificates, over one domain; a certificate keeps its number of lines
  module _ {heap : Heap} {domain domain' : List ℕ} (one : domain ≡ domain') where
    abbrev ground : {called : List ℕ} {f : ℕ} → Ground a heap domain called f → Ground b heap domain' called f
    ground g = record {
      rule = g.rule;
      arguments = g.arguments;
      bound = g.bound;
      indices = g.indices;
      part = g.part;
      applies = applies_more a b heap same.arities kept g.applies;
      keeps = rw one at g.keeps;
      calls = rw one at g.calls;
      joins = g.joins;
      is_fact = rw one at g.is_fact;
    }

    line_same : {words lines : List ℕ} {k : ℕ} → LineHolds a heap domain words k lines → LineHolds b heap domain' words k lines
    line_same l = record {
      earlier = l.earlier;
      ground = ground l.ground;
      written = record {
        number = l.written.number;
        in_rule_set = rw same.rules at l.written.in_rule_set;
        is_rule = rw same.rules at l.written.is_rule;
        positions = rw one at l.written.positions;
        names = l.written.names;
      };
    }

    abbrev certificate_same : {p : ℕ} {vs : List ℕ} {part : ℕ} {words : List ℕ} → Certificate a heap domain p vs part words
        → Certificate b heap domain' p vs part words
    certificate_same c = record {
      count = c.count;
      some = c.some;
      most = c.most;
      whole = c.whole;
      calls = c.calls;
      each = λ k low high. line_same (c.each k low high);
      last = rw one at c.last;
    }

    abbrev trimmed_same : {p : ℕ} {vs : List ℕ} {part : ℕ} {words : List ℕ} → Trimmed a heap domain p vs part words
        → Trimmed b heap domain' p vs part words
    trimmed_same t = record { taken = certificate_same t.taken; once = t.once; used = t.used }

grounds_same : {a b : RuleSet} → SameRules a b → {heap : Heap} {domain domain' : List ℕ} → domain ≡ domain' → SameGrounds a heap domain b heap domain'
grounds_same same one called f = (ground same one, ground (exchanged same) (sym one))

-- ---- what each call answers

-- The input with another rule set.
abbrev by_rules : Input → RuleSet → Input
by_rules i rule_set = record { rule_set = rule_set; heap = i.heap; predicate = i.predicate; values = i.values }

desk_takes : (i j : Input) → ((words : List ℕ) → CertificateInput i words → CertificateInput j words)
    → {bytes : List ℕ} → DeskTakes i bytes → DeskTakes j bytes
desk_takes i j carry t = record { words = t.words; small = t.small; are_bytes = t.are_bytes; most = t.most; taken = carry t.words t.taken }

module _ (i : Input) {b : RuleSet} (same : SameRules i.rule_set b) where
  one_domain : domain_of i ≡ domain_of (by_rules i b)
  one_domain = same_domain same i.heap i.values

  grounds : SameGrounds i.rule_set i.heap (domain_of i) b i.heap (domain_of (by_rules i b))
  grounds = grounds_same same one_domain

  whole_both : FitsInput i ↔ FitsInput (by_rules i b)
  whole_both = (fits_same same, fits_same (exchanged same))

  some_both : SomeFits i ↔ SomeFits (by_rules i b)
  some_both = (λ (part, f). (part, part_same same f), λ (part, f). (part, part_same (exchanged same) f))

  certificate_both : {part : ℕ} {words : List ℕ} → CertificatePart i part words ↔ CertificatePart (by_rules i b) part words
  certificate_both = (certificate_same same one_domain, certificate_same (exchanged same) (sym one_domain))

  answers_same : {n : ℕ} {Yes Yes' : Type 0} {part : ℕ} {reply : Reply} {table space : List ℕ} → Yes ↔ Yes'
      → Answers i n Yes part reply table space → Answers (by_rules i b) n Yes' part reply table space
  answers_same both (Answers.over m r t s) = Answers.over (more_same grounds m) r t s
  answers_same both (Answers.fits rounds facts words f y u r s) =
      Answers.fits rounds facts words (filled_same grounds f) (both.0 y) (trimmed_same same one_domain u) r s
  answers_same both (Answers.fits_not rounds facts f y r s) =
      Answers.fits_not rounds facts (filled_same grounds f) (λ z. y (both.1 z)) r s

  finds_same : {n : ℕ} {reply : PartReply} {table space : List ℕ} → Finds i n reply table space → Finds (by_rules i b) n reply table space
  finds_same f = record { answers = answers_same some_both f.answers; fits = λ v. part_same same (f.fits v); none = f.none }

  checks_same : {part : ℕ} {words : List ℕ} {reply : CheckReply} → Checks i part words reply → Checks (by_rules i b) part words reply
  checks_same (Checks.takes c r) = Checks.takes (certificate_both.0 c) r
  checks_same (Checks.takes_not c r) = Checks.takes_not (λ d. c (certificate_both.1 d)) r

  desk_checks_same : {bytes : List ℕ} {number : ℕ} → DeskChecks i bytes number → DeskChecks (by_rules i b) bytes number
  desk_checks_same (DeskChecks.takes t e) = DeskChecks.takes (desk_takes i (by_rules i b) (λ w. certificate_both.0) t) e
  desk_checks_same (DeskChecks.takes_not t e) = DeskChecks.takes_not (λ u. t (desk_takes (by_rules i b) i (λ w. certificate_both.1) u)) e

  walks_same : {reply : WalkReply} → Walks i reply → Walks (by_rules i b) reply
  walks_same (Walks.not_plain n r) = Walks.not_plain (λ plain. n (plain_same (exchanged same) plain)) r
  walks_same (Walks.fits plain f r) = Walks.fits (plain_same same plain) (whole_both.0 f) r
  walks_same (Walks.fits_not plain n r) = Walks.fits_not (plain_same same plain) (λ f. n (whole_both.1 f)) r

-- ---- from bytes

-- What was read, with another rule set; refusals stay.
abbrev read_by : RuleSet → Result Input → Result Input
read_by rule_set (accepted i) = accepted (by_rules i rule_set)
read_by rule_set (refused n) = refused n

-- The ladder once the book is read.
abbrev onward : RuleSet → Result Heap → Result Query → Result Input
onward rule_set h q =
    and_then h (λ heap.
    and_then q (λ query.
    accepted (record { rule_set = rule_set; heap = heap; predicate = query.predicate; values = query.values })))

onward_by : (a b : RuleSet) (h : Result Heap) (q : Result Query) → onward b h q ≡ read_by b (onward a h q)
onward_by a b (accepted h) (accepted q) = refl
onward_by a b (accepted h) (refused n) = refl
onward_by a b (refused n) q = refl

onward_rules : (a : RuleSet) (h : Result Heap) (q : Result Query) (i : Input) → onward a h q ≡ accepted i → i.rule_set ≡ a
onward_rules a (accepted h) (accepted q) i e = cc
onward_rules a (accepted h) (refused n) i e = absurd (clash (computed (refused n)) e refl)
onward_rules a (refused n) q i e = absurd (clash (computed (refused n)) e refl)

module _ (book snapshot question : List ℕ) {a : RuleSet} (reads : read_rule_set book ≡ accepted a)
    (book' : List ℕ) {b : RuleSet} (reads' : read_rule_set book' ≡ accepted b) (same : SameRules a b) where
  ladder_by : ladder book' snapshot question ≡ read_by b (ladder book snapshot question)
  unfolding ladder
  ladder_by =
      rw (reads, reads')
      (ap (λ (counts : List ℕ). onward b (read_snapshot snapshot) (read_query counts question)) (sym same.arities)
      ∙ onward_by a b (read_snapshot snapshot) (read_query a.arities question))

  ladder_rules : (i : Input) → ladder book snapshot question ≡ accepted i → i.rule_set ≡ a
  unfolding ladder
  ladder_rules i e = onward_rules a (read_snapshot snapshot) (read_query a.arities question) i (rw reads at e)

  served_by : {Lends : Type 0} {Refuses : ℕ → Type 0} {Answered : Input → Type 0}
      → ((i : Input) → SameRules i.rule_set b → Answered i → Answered (by_rules i b))
      → Served (λ (r : Result Input). ladder book snapshot question ≡ r) Lends Refuses Answered
      → Served (λ (r : Result Input). ladder book' snapshot question ≡ r) Lends Refuses Answered
  served_by carry (Served.unread n e k) = Served.unread n (ladder_by ∙ ap (read_by b) e) k
  served_by carry (Served.unlent i e l k) = Served.unlent (by_rules i b) (ladder_by ∙ ap (read_by b) e) l k
  served_by carry (Served.answered i e l w) = Served.answered (by_rules i b) (ladder_by ∙ ap (read_by b) e) l (carry i (rw (ladder_rules i e) same) w)

  pub decided_by_value : {table space : List ℕ} {r : Reply} {t x : List ℕ} → Decided book snapshot question table space r t x
      → Decided book' snapshot question table space r t x
  decided_by_value = served_by (λ i s. answers_same i s (whole_both i s))

  pub found_by_value : {table space : List ℕ} {r : PartReply} {t x : List ℕ} → Found book snapshot question table space r t x
      → Found book' snapshot question table space r t x
  found_by_value = served_by (λ i s. finds_same i s)

  pub checked_by_value : {words : List ℕ} {r : CheckReply} → Checked book snapshot question words r → Checked book' snapshot question words r
  checked_by_value = served_by (λ i s. checks_same i s)

  pub checked_part_by_value : {part : ℕ} {words : List ℕ} {r : CheckReply} → CheckedPart book snapshot question part words r
      → CheckedPart book' snapshot question part words r
  checked_part_by_value = served_by (λ i s. checks_same i s)

  pub walked_by_value : {r : WalkReply} → Walked book snapshot question r → Walked book' snapshot question r
  walked_by_value = served_by (λ i s. walks_same i s)

  pub desk_decided_by_value : {n : ℕ} → DeskDecided book snapshot question n → DeskDecided book' snapshot question n
  desk_decided_by_value d =
      record { reply = d.reply; table = d.table; space = d.space; decided = decided_by_value d.decided; is_number = d.is_number }

  pub desk_checked_by_value : {bytes : List ℕ} {n : ℕ} → DeskChecked book snapshot question bytes n → DeskChecked book' snapshot question bytes n
  desk_checked_by_value = served_by (λ i s. desk_checks_same i s)

-- ---- a fixed value listed again

pub listed_again : (rule_set : RuleSet) (c : ℕ) → c among fixed_values rule_set
    → SameRules rule_set (record { arities = rule_set.arities; constants = c ∷ rule_set.constants; rules = rule_set.rules })
listed_again rule_set c m = record {
  arities = refl;
  rules = refl;
  fixed = λ v. (
    λ k. ⊎_elim Memᴰ.head (λ l. Memᴰ.tail (Memᴰ.tail l)) (Memᴰ.cases_cons k),
    λ k. ⊎_elim Memᴰ.head (λ l. ⊎_elim (λ e. Memᴰ.cast e m) Memᴰ.tail (Memᴰ.cases_cons l)) (Memᴰ.cases_cons k),
  );
}
