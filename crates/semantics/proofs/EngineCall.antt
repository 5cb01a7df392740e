-- What every outcome of the engine has in common, whatever a yes says and whichever part its certificate shows: what is decided, that what
-- is lent keeps its length, and that the check takes what is written.
use mathlib.Core.{Path.◌≡◌, Path.refl, Path.sym, Path.ap, Path.ap₂, Path.◌∙◌, Logic.◌⊎◌, Logic.inl, Logic.inr, Logic.⊎_elim, List.List}
use Prim.Native.Nat.{ℕ, ◌-◌, ◌*◌, ◌≤◌}
use native.Mathlib.Omega.{arith}
use lib.{ListN.length, ListN.take, ListN.length-replicate, Seq.take-append_seam}
use Rattle.semantics.specs.{Lists.zeros, Reader.Result, Formats.Input, Formats.ladder, Served.Served, Refusals.too_many_facts}
use Rattle.semantics.specs.Contract.{SomeFits, CertificatePart, MoreFactsThan, CompletedInput, FilledInput, padded, refusal_reply, Answers, EngineCall, Decided}
use Rattle.semantics.specs.Contract.{without_part, Found, Checks, CheckedFor}
use Rattle.semantics.proofs.{Reached.completed_unique, Reached.more_facts, ContractLengths.lines_fit, ContractLengths.padded-length}
use Rattle.semantics.proofs.ServedFacts.{OneOutcome, computed, served_both}
use Rattle.semantics.specs.declared.{Reply.Reply, PartReply.PartReply}

-- what is lent keeps its length
pub record Keeps (table space table' space' : List ℕ) : Type 0 where
  pub tables : length table' ≡ length table
  pub spaces : length space' ≡ length space

-- ---- what is decided

-- two outcomes agree in refusal, facts, rounds and table, whatever was asked
pub record Alike (r s : Reply) (t u : List ℕ) : Type 0 where
  pub refusals : r.refusal ≡ s.refusal
  pub facts : r.facts ≡ s.facts
  pub rounds : r.rounds ≡ s.rounds
  pub tables : t ≡ u

-- two outcomes agree
pub record Same (r s : Reply) (t u : List ℕ) (x y : List ℕ) : Type 0 where
  pub alike : Alike r s t u
  pub verdicts : r.verdict ≡ s.verdict
  pub choice : r.verdict ≡ 0 → (r ≡ s) × (x ≡ y)

equal_alike : {r s : Reply} {t u : List ℕ} → r ≡ s → t ≡ u → Alike r s t u
equal_alike e p = record { refusals = ap (λ (r : Reply). r.refusal) e; facts = ap (λ (r : Reply). r.facts) e; rounds = ap (λ (r : Reply). r.rounds) e; tables = p }

equal_same : {r s : Reply} {t u x y : List ℕ} → r ≡ s → t ≡ u → x ≡ y → Same r s t u x y
equal_same e p q = record { alike = equal_alike e p; verdicts = ap (λ (r : Reply). r.verdict) e; choice = λ _. (e, q) }

module _ (i : Input) (n : ℕ) where
  pub not_over : {r : ℕ} {xs : List ℕ} → CompletedInput i r xs → length xs ≤ n → MoreFactsThan i n → ⊥
  not_over c l m = omega (arith, (more_facts i c n).0 m)

  -- all facts are in the table and counted
  pub record Tabled (r : Reply) (t : List ℕ) : Type 0 where
    pub unrefused : r.refusal ≡ 0
    pub facts : List ℕ
    pub filled : FilledInput i n r.rounds facts t
    pub counted : length facts ≡ r.facts

  module _ {Yes : Type 0} {part : ℕ} where
    pub tabled : {r : Reply} {t x : List ℕ} → Answers i n Yes part r t x
        → (MoreFactsThan i n × (r ≡ refusal_reply too_many_facts) × (t ≡ zeros n) × (x ≡ zeros (3 * n))) ⊎ Tabled r t
    tabled (Answers.over m a b c) = inl (m, a, b, c)
    tabled (Answers.fits rounds facts words f v u a c) =
        inr (record { unrefused = ap (λ (r : Reply). r.refusal) a; facts = facts; filled = rw (ap (λ (r : Reply). r.rounds) a) f; counted = sym (ap (λ (r : Reply). r.facts) a) })
    tabled (Answers.fits_not rounds facts f v a c) =
        inr (record { unrefused = ap (λ (r : Reply). r.refusal) a; facts = facts; filled = rw (ap (λ (r : Reply). r.rounds) a) f; counted = sym (ap (λ (r : Reply). r.facts) a) })

  tabled_alike : {r s : Reply} {t u : List ℕ} → Tabled r t → Tabled s u → Alike r s t u
  tabled_alike a b =
      let (p, q) = completed_unique i a.filled.completed b.filled.completed in
      record {
        refusals = a.unrefused ∙ sym b.unrefused;
        facts = sym a.counted ∙ ap length q ∙ b.counted;
        rounds = p;
        tables = a.filled.is_table ∙ ap (padded n) q ∙ sym b.filled.is_table;
      }

  pub alike : {Yes Other : Type 0} {part other : ℕ} {r s : Reply} {t u x y : List ℕ} → Answers i n Yes part r t x → Answers i n Other other s u y → Alike r s t u
  alike a b =
      ⊎_elim
      (λ (m, e, p, _). ⊎_elim (λ (m', e', p', _). equal_alike (e ∙ sym e') (p ∙ sym p')) (λ f. absurd (not_over f.filled.completed f.filled.room m)) (tabled b))
      (λ f. ⊎_elim (λ over. absurd (not_over f.filled.completed f.filled.room over.0)) (tabled_alike f) (tabled b)) (tabled a)

  pub same : {Yes : Type 0} {part other : ℕ} {r s : Reply} {t u x y : List ℕ} → Answers i n Yes part r t x → Answers i n Yes other s u y → Same r s t u x y
  same (Answers.over m a b c) (Answers.over m' a' b' c') = equal_same (a ∙ sym a') (b ∙ sym b') (c ∙ sym c')
  same (Answers.over m a b c) (Answers.fits rounds facts words w f v a' c') = absurd (not_over w.completed w.room m)
  same (Answers.over m a b c) (Answers.fits_not rounds facts w f a' c') = absurd (not_over w.completed w.room m)
  same (Answers.fits rounds facts words w f v a c) (Answers.over m a' b' c') = absurd (not_over w.completed w.room m)
  same (Answers.fits_not rounds facts w f a c) (Answers.over m a' b' c') = absurd (not_over w.completed w.room m)
  same (Answers.fits rounds facts words w f v a c) (Answers.fits_not rounds' facts' w' f' a' c') = absurd (f' f)
  same (Answers.fits_not rounds facts w f a c) (Answers.fits rounds' facts' words' w' f' v' a' c') = absurd (f f')
  same (Answers.fits_not rounds facts w f a c) (Answers.fits_not rounds' facts' w' f' a' c') =
      let (p, q) = completed_unique i w.completed w'.completed in
      equal_same (a ∙ ap₂ (λ (k : ℕ) (xs : List ℕ). record { refusal = 0; verdict = 0; facts = length xs; rounds = k; lines = 0 }) p q ∙ sym a')
      (w.is_table ∙ ap (padded n) q ∙ sym w'.is_table) (c ∙ sym c')
  same (Answers.fits rounds facts words w f v a c) (Answers.fits rounds' facts' words' w' f' v' a' c') = record {
    alike = alike (Answers.fits rounds facts words w f v a c) (Answers.fits rounds' facts' words' w' f' v' a' c');
    verdicts = ap (λ (r : Reply). r.verdict) a ∙ sym (ap (λ (r : Reply). r.verdict) a');
    choice = λ z. absurd (omega (arith, ap (λ (r : Reply). r.verdict) a));
  }

  -- ---- what is written

  module _ {Yes : Type 0} {part : ℕ} where
    -- What is lent keeps its length: the facts and the lines that are written fit.
    pub lengths : {r : Reply} {t x : List ℕ} → Answers i n Yes part r t x → (length t ≡ n) × (length x ≡ 3 * n)
    lengths (Answers.over m a t p) = (ap length t ∙ length-replicate {A = ℕ} n 0, ap length p ∙ length-replicate {A = ℕ} (3 * n) 0)
    lengths (Answers.fits rounds facts words w f u a p) = (
      ap length w.is_table ∙ padded-length n facts w.room,
      ap length p ∙ padded-length (3 * n) words (omega (arith, u.taken.whole, lines_fit i words u w.completed, w.room)),
    )
    lengths (Answers.fits_not rounds facts w f a p) =
        (ap length w.is_table ∙ padded-length n facts w.room, ap length p ∙ length-replicate {A = ℕ} (3 * n) 0)

    -- The words of the first `lines` lines are a certificate.
    pub written : {r : Reply} {t x : List ℕ} → Answers i n Yes part r t x → r.verdict ≡ 1 → CertificatePart i part (take (3 * r.lines) x)
    written (Answers.over m a b c) z = absurd (omega (arith, ap (λ (r : Reply). r.verdict) a))
    written (Answers.fits_not rounds facts f v a c) z = absurd (omega (arith, ap (λ (r : Reply). r.verdict) a))
    written {r} {t} {x} (Answers.fits rounds facts words f v u a c) z =
        let k : 3 * r.lines ≡ length words = omega (arith, ap (λ (r : Reply). r.lines) a, u.taken.whole) in
        let q : take (3 * r.lines) x ≡ words = ap₂ take k c ∙ take-append_seam words (zeros (3 * n - length words)) in
        rw q u.taken

-- ---- from bytes and lent memory

module _ (book snapshot question : List ℕ) where
  pub one_ladder : OneOutcome (λ (r : Result Input). ladder book snapshot question ≡ r)
  one_ladder = computed (ladder book snapshot question)

  module _ (table space : List ℕ) where
    pub found_call : {r : PartReply} {t x : List ℕ} → Found book snapshot question table space r t x → EngineCall SomeFits (λ (i : Input). r.part) book snapshot question table space (without_part r) t x
    found_call (Served.unread n e k) = Served.unread n e (record { is_reply = ap without_part k.is_reply; same_table = k.same_table; same_space = k.same_space })
    found_call (Served.unlent i e l k) = Served.unlent i e l (record { is_reply = ap without_part k.is_reply; same_table = k.same_table; same_space = k.same_space })
    found_call (Served.answered i e l w) = Served.answered i e l w.answers

    pub calls_alike : {Yes Other : Input → Type 0} {part other : Input → ℕ} {r s : Reply} {t u x y : List ℕ} → EngineCall Yes part book snapshot question table space r t x → EngineCall Other other book snapshot question table space s u y → Alike r s t u
    calls_alike d e =
        served_both one_ladder d e (λ n k l. equal_alike (k.is_reply ∙ sym l.is_reply) (k.same_table ∙ sym l.same_table)) (λ i k l. alike i (length table) k l)

    pub calls_same : {Yes : Input → Type 0} {part other : Input → ℕ} {r s : Reply} {t u x y : List ℕ} → EngineCall Yes part book snapshot question table space r t x → EngineCall Yes other book snapshot question table space s u y → Same r s t u x y
    calls_same d e =
        served_both one_ladder d e
        (λ n k l. equal_same (k.is_reply ∙ sym l.is_reply) (k.same_table ∙ sym l.same_table) (k.same_space ∙ sym l.same_space))
        (λ i k l. same i (length table) k l)

    module _ {Yes : Input → Type 0} {part : Input → ℕ} {r : Reply} {t x : List ℕ} where
      pub call_lengths : EngineCall Yes part book snapshot question table space r t x → Keeps table space t x
      call_lengths (Served.unread n e k) = record { tables = ap length k.same_table; spaces = ap length k.same_space }
      call_lengths (Served.unlent i e l k) = record { tables = ap length k.same_table; spaces = ap length k.same_space }
      call_lengths (Served.answered i e l w) = let (a, b) = lengths i (length table) w in record { tables = a; spaces = b ∙ sym l.three }

      -- What is written is taken by the check for its part: the words of the first `lines` lines of the unfolding space.
      pub call_checks : EngineCall Yes part book snapshot question table space r t x → r.verdict ≡ 1
          → CheckedFor book snapshot question part (take (3 * r.lines) x) (record { refusal = 0; taken = 1 })
      call_checks (Served.unread n e k) z = absurd (omega (arith, ap (λ (r : Reply). r.verdict) k.is_reply))
      call_checks (Served.unlent i e l k) z = absurd (omega (arith, ap (λ (r : Reply). r.verdict) k.is_reply))
      call_checks (Served.answered i e l w) z = Served.answered i e tt (Checks.takes (written i (length table) w z) refl)

    -- ---- of the two calls

    pub decided_same : {r s : Reply} {t u x y : List ℕ} → Decided book snapshot question table space r t x → Decided book snapshot question table space s u y → Same r s t u x y
    decided_same d e = calls_same d e

    pub found_same : {r s : PartReply} {t u x y : List ℕ} → Found book snapshot question table space r t x → Found book snapshot question table space s u y
        → Same (without_part r) (without_part s) t u x y
    found_same d e = calls_same (found_call d) (found_call e)

    pub found_like_decided : {r : Reply} {s : PartReply} {t u x y : List ℕ} → Decided book snapshot question table space r t x
        → Found book snapshot question table space s u y → Alike r (without_part s) t u
    found_like_decided d e = calls_alike d (found_call e)

    pub decided_lengths : {r : Reply} {t x : List ℕ} → Decided book snapshot question table space r t x → Keeps table space t x
    decided_lengths d = call_lengths d

    pub found_lengths : {r : PartReply} {t x : List ℕ} → Found book snapshot question table space r t x → Keeps table space t x
    found_lengths d = call_lengths (found_call d)
