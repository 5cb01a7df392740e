-- The contracts can be met: for all bytes and all lent memory there is an outcome of the engine, and for all words one of the check.
use mathlib.Core.{Bool.Bool, Bool.true, Bool.false, Bool.false≢true, Path.◌≡◌, Path.refl, Path.sym, Path.◌∙◌, Logic.◌↔◌, Logic.◌⊎◌, Logic.inl, Logic.inr, Logic.by_cases, List.List}
use Prim.Native.Nat.{ℕ, ◌*◌, ◌≤◌, ◌<◌}
use native.Mathlib.{Omega.arith, Decide.ℕ_discrete, Decide.dec_lt}
use lib.ListN.{length}
use Rattle.semantics.specs.{Lists.zeros, Heap.whole_of, Formats.Input, Formats.ladder, Formats.WellFormedInput, Refusals.too_many_facts}
use Rattle.semantics.specs.Contract.{domain_of, FitsInput, FitsPart, CertificatePart, Lent, CompletedInput, padded, refusal_reply, Refuses, Answers, Decided, Checks, CheckedFor}
use Rattle.semantics.proofs.{DomainFacts.domain-ascending, DomainFacts.domain-length, FormatsFacts.ladder_read, Verdict.fits_whole, Existence.trimmed_exists}
use Rattle.semantics.proofs.{Reached.completed_exists, Reached.more_facts, Reached.fits_decided, CertificateTest.takes, Taking.takes_exact}
use Rattle.semantics.proofs.ServedFacts.{serves}
use Rattle.semantics.specs.declared.{Reply.Reply, CheckReply.CheckReply}

pub lent_decided : (n m : ℕ) → Dec (Lent n m)
lent_decided n m = step (dec_lt 0 n) (dec_lt n 65536) (ℕ_discrete m (3 * n))
  where
    step : Dec (0 < n) → Dec (n < 65536) → Dec (m ≡ 3 * n) → Dec (Lent n m)
    step (yes a) (yes b) (yes c) = yes (record { some = a; most = omega arith; three = c })
    step (no a) x y = no (λ l. a l.some)
    step (yes a) (no b) y = no (λ l. b (omega (arith, l.most)))
    step (yes a) (yes b) (no c) = no (λ l. c l.three)

-- the reply, and table and unfolding space afterwards
pub record Returned (R : Type 0) : Type 0 where
  pub reply : R
  pub table : List ℕ
  pub space : List ℕ

abbrev pub AnswersBy : Input → ℕ → Type 0 → ℕ → Returned Reply → Type 0
AnswersBy i n Yes part o = Answers i n Yes part o.reply o.table o.space

-- An answer exists where it is decided whether a yes is due, and a yes comes with a part that fits.
pub answer_exists : (i : Input) → WellFormedInput i → (n : ℕ) → n ≤ 65535 → {Yes : Type 0} (part : ℕ) → (Yes × FitsPart i part) ⊎ (¬ Yes)
    → (o : Returned Reply) × AnswersBy i n Yes part o
answer_exists i h n l {Yes} part decided =
    let (r, xs, c) = completed_exists i h in
    step r xs c (dec_lt n (length xs)) decided
  where
    step : (r : ℕ) (xs : List ℕ) → CompletedInput i r xs → Dec (n < length xs) → (Yes × FitsPart i part) ⊎ (¬ Yes) → (o : Returned Reply) × AnswersBy i n Yes part o
    step r xs c (yes m) f = (
      record { reply = refusal_reply too_many_facts; table = zeros n; space = zeros (3 * n) },
      Answers.over ((more_facts i c n).1 m) refl refl refl,
    )
    step r xs c (no m) (inr f) = (
      record { reply = record { refusal = 0; verdict = 0; facts = length xs; rounds = r; lines = 0 }; table = padded n xs; space = zeros (3 * n) },
      Answers.fits_not r xs (record { completed = c; room = omega arith; is_table = refl }) f refl refl,
    )
    step r xs c (no m) (inl (f, k)) =
        let (words, u) = trimmed_exists i.rule_set i.heap i.predicate i.values part h.valid k c.after c.complete (omega arith) in (
          record {
            reply = record { refusal = 0; verdict = 1; facts = length xs; rounds = r; lines = u.taken.count };
            table = padded n xs;
            space = padded (3 * n) words;
          },
          Answers.fits r xs words (record { completed = c; room = omega arith; is_table = refl }) f u refl refl,
        )

module _ (book snapshot question : List ℕ) where
  pub decided_exists : (table space : List ℕ) → (o : Returned Reply) × Decided book snapshot question table space o.reply o.table o.space
  decided_exists table space =
      serves {Refuses = λ (o : Returned Reply) (n : ℕ). Refuses refusal_reply o.reply table space o.table o.space n}
      {Answered = λ (o : Returned Reply) (i : Input). AnswersBy i (length table) (FitsInput i) (whole_of i.heap) o}
      (ladder book snapshot question) refl (lent_decided (length table) (length space))
      (λ n. (record { reply = refusal_reply n; table = table; space = space }, record { is_reply = refl; same_table = refl; same_space = refl }))
      (λ i e l. let h = ladder_read book snapshot question i e in
      answer_exists i h (length table) l.most (whole_of i.heap) (by_cases (fits_decided i h) (λ f. inl (f, fits_whole f)) (λ f. inr f)))

  -- the conditions for lines are decided
  taken_decided : (i : Input) → WellFormedInput i → (part : ℕ) (words : List ℕ) → Dec (CertificatePart i part words)
  taken_decided i h part words =
      let x = takes_exact i.rule_set i.heap (domain_of i) words (domain-ascending i.rule_set i.heap i.values) (omega (arith, h.valid.rules_formed.rules_few))
      (omega (arith, domain-length i.rule_set i.heap i.values h.valid)) i.predicate i.values part in
      step (takes i.rule_set i.heap (domain_of i) words i.predicate i.values part) refl x
    where
      step : (b : Bool) → takes i.rule_set i.heap (domain_of i) words i.predicate i.values part ≡ b
          → ((takes i.rule_set i.heap (domain_of i) words i.predicate i.values part ≡ true) ↔ CertificatePart i part words) → Dec (CertificatePart i part words)
      step true e x = yes (x.0 e)
      step false e x = no (λ t. false≢true (sym e ∙ x.1 t))

  pub checked_exists : (part : Input → ℕ) (words : List ℕ) → (r : CheckReply) × CheckedFor book snapshot question part words r
  checked_exists part words =
      serves {Refuses = λ (r : CheckReply) (n : ℕ). r ≡ record { refusal = n; taken = 0 }} {Answered = λ (r : CheckReply) (i : Input). Checks i (part i) words r}
      (ladder book snapshot question) refl (yes tt)
      (λ n. (record { refusal = n; taken = 0 }, refl))
      (λ i e l. by_cases (taken_decided i (ladder_read book snapshot question i e) (part i) words)
      (λ t. (record { refusal = 0; taken = 1 }, Checks.takes t refl)) (λ n. (record { refusal = 0; taken = 0 }, Checks.takes_not n refl)))
