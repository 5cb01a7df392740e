-- The contract of the walk. It fixes the whole reply, and there always is one, since it can be decided whether a rule set is plain and
-- whether it fits. It ties the walk to the engine: what fits by hand is what both speak of.
use mathlib.Core.{Path.◌≡◌, Path.refl, Path.sym, Path.ap, Path.◌∙◌, Logic.◌↔◌, Logic.◌≢◌, Logic.◌⊎◌, Logic.inl, Logic.inr, Logic.⊎_elim, List.List}
use Prim.Native.Nat.{ℕ, ◌≤◌}
use native.Mathlib.Omega.{arith}
use Rattle.semantics.specs.{Reader.accepted, Reader.refused, Refusals.book_not_plain, Formats.Input, Formats.ladder, Formats.WellFormedInput, Served.Served}
use Rattle.semantics.specs.{Contract.FitsInput, Contract.Answers, Contract.Decided, Plain.Plain, Walk.refusal_walk_reply, Walk.Walks, Walk.Walked}
use Rattle.semantics.proofs.{FormatsFacts.ladder_read, FormatsFacts.ladder-number, Reached.fits_decided, EngineCall.one_ladder, PlainDecided.plain_decided}
use Rattle.semantics.proofs.ServedFacts.{clash, same_input, served_answered, served_both, unread_exactly, serves}
use Rattle.semantics.specs.declared.{Reply.Reply, WalkReply.WalkReply}

-- ---- what an answer says

module _ {i : Input} {r : WalkReply} where
  -- none but a plain rule set is answered for
  pub answers_plain : Walks i r → r.refusal ≡ 0 → Plain i.rule_set
  answers_plain (Walks.not_plain n e) z = absurd (omega (arith, z, ap (λ (s : WalkReply). s.refusal) e))
  answers_plain (Walks.fits p f e) z = p
  answers_plain (Walks.fits_not p n e) z = p

  plain_answers : Walks i r → Plain i.rule_set → r.refusal ≡ 0
  plain_answers (Walks.not_plain n e) p = absurd (n p)
  plain_answers (Walks.fits p f e) q = ap (λ (s : WalkReply). s.refusal) e
  plain_answers (Walks.fits_not p n e) q = ap (λ (s : WalkReply). s.refusal) e

  -- any other is refused
  not_plain_exactly : Walks i r → (r.refusal ≡ book_not_plain) ↔ (¬ Plain i.rule_set)
  not_plain_exactly (Walks.not_plain n e) = (λ q. n, λ m. ap (λ (s : WalkReply). s.refusal) e)
  not_plain_exactly (Walks.fits p f e) = (λ q. absurd (omega (arith, q, ap (λ (s : WalkReply). s.refusal) e)), λ m. absurd (m p))
  not_plain_exactly (Walks.fits_not p n e) = (λ q. absurd (omega (arith, q, ap (λ (s : WalkReply). s.refusal) e)), λ m. absurd (m p))

  walks_most : Walks i r → ((r.refusal ≡ 0) ⊎ (r.refusal ≡ book_not_plain)) × (r.verdict ≤ 1)
  walks_most (Walks.not_plain n e) = (inr (ap (λ (s : WalkReply). s.refusal) e), omega (arith, ap (λ (s : WalkReply). s.verdict) e))
  walks_most (Walks.fits p f e) = (inl (ap (λ (s : WalkReply). s.refusal) e), omega (arith, ap (λ (s : WalkReply). s.verdict) e))
  walks_most (Walks.fits_not p n e) = (inl (ap (λ (s : WalkReply). s.refusal) e), omega (arith, ap (λ (s : WalkReply). s.verdict) e))

  refused_alone : Walks i r → r.refusal ≢ 0 → r.verdict ≡ 0
  refused_alone (Walks.not_plain n e) z = ap (λ (s : WalkReply). s.verdict) e
  refused_alone (Walks.fits p f e) z = absurd (z (ap (λ (s : WalkReply). s.refusal) e))
  refused_alone (Walks.fits_not p n e) z = absurd (z (ap (λ (s : WalkReply). s.refusal) e))

  -- both verdicts are those by hand
  pub walks_verdict : Walks i r → r.refusal ≡ 0 → ((r.verdict ≡ 1) ↔ FitsInput i) × ((r.verdict ≡ 0) ↔ (¬ FitsInput i))
  walks_verdict (Walks.not_plain n e) z = absurd (omega (arith, z, ap (λ (s : WalkReply). s.refusal) e))
  walks_verdict (Walks.fits p f e) z =
      let one : r.verdict ≡ 1 = ap (λ (s : WalkReply). s.verdict) e in
      ((λ q. f, λ g. one), (λ q. absurd (omega arith), λ n. absurd (n f)))
  walks_verdict (Walks.fits_not p n e) z =
      let none : r.verdict ≡ 0 = ap (λ (s : WalkReply). s.verdict) e in
      ((λ q. absurd (omega arith), λ f. absurd (n f)), (λ q. n, λ m. none))

-- one answer at most
walks_same : {i : Input} {r s : WalkReply} → Walks i r → Walks i s → r ≡ s
walks_same (Walks.not_plain n e) (Walks.not_plain m q) = e ∙ sym q
walks_same (Walks.not_plain n e) (Walks.fits p f q) = absurd (n p)
walks_same (Walks.not_plain n e) (Walks.fits_not p m q) = absurd (n p)
walks_same (Walks.fits p f e) (Walks.not_plain n q) = absurd (n p)
walks_same (Walks.fits p f e) (Walks.fits p' f' q) = e ∙ sym q
walks_same (Walks.fits p f e) (Walks.fits_not p' n q) = absurd (n f)
walks_same (Walks.fits_not p n e) (Walks.not_plain m q) = absurd (m p)
walks_same (Walks.fits_not p n e) (Walks.fits p' f q) = absurd (n f)
walks_same (Walks.fits_not p n e) (Walks.fits_not p' m q) = e ∙ sym q

-- and there is one: whether the rule set is plain and whether it fits can be decided
walks_exists : (i : Input) → WellFormedInput i → (r : WalkReply) × Walks i r
walks_exists i h = step (plain_decided i.rule_set h.valid.rules_formed) (fits_decided i h)
  where
    step : Dec (Plain i.rule_set) → Dec (FitsInput i) → (r : WalkReply) × Walks i r
    step (no n) d = (refusal_walk_reply book_not_plain, Walks.not_plain n refl)
    step (yes p) (yes f) = (record { refusal = 0; verdict = 1 }, Walks.fits p f refl)
    step (yes p) (no n) = (record { refusal = 0; verdict = 0 }, Walks.fits_not p n refl)

-- the engine's verdict, where it does not refuse
engine_verdict : {i : Input} {n part : ℕ} {r : Reply} {t x : List ℕ} → Answers i n (FitsInput i) part r t x → r.refusal ≡ 0
    → (FitsInput i × (r.verdict ≡ 1)) ⊎ ((¬ FitsInput i) × (r.verdict ≡ 0))
engine_verdict (Answers.over m a b c) z = absurd (omega (arith, ap (λ (r : Reply). r.refusal) a))
engine_verdict (Answers.fits rounds facts words f v u a c) z = inl (v, ap (λ (r : Reply). r.verdict) a)
engine_verdict (Answers.fits_not rounds facts f v a c) z = inr (v, ap (λ (r : Reply). r.verdict) a)

module _ (book snapshot question : List ℕ) where
  -- what is read is walked
  pub walked_answer : {r : WalkReply} → Walked book snapshot question r → {i : Input} → ladder book snapshot question ≡ accepted i → Walks i r
  walked_answer d e = served_answered (one_ladder book snapshot question) d e tt

  -- It can be met for all bytes, by one reply.
  pub walked_exists : (r : WalkReply) × Walked book snapshot question r
  walked_exists =
      serves {Refuses = λ (r : WalkReply) (n : ℕ). r ≡ refusal_walk_reply n} {Answered = λ (r : WalkReply) (i : Input). Walks i r} (ladder book snapshot question) refl (yes tt)
      (λ n. (refusal_walk_reply n, refl)) (λ i e l. walks_exists i (ladder_read book snapshot question i e))

  pub walked_same : {r s : WalkReply} → Walked book snapshot question r → Walked book snapshot question s → r ≡ s
  walked_same d e = served_both (one_ladder book snapshot question) d e (λ n k l. k ∙ sym l) (λ i k l. walks_same k l)

  -- Each of 1 to 9 is given exactly where the ladder gives it, and 12 exactly where all is read and the rule set is not plain.
  pub walked_refusal : {r : WalkReply} → Walked book snapshot question r → (n : ℕ) → 1 ≤ n → n ≤ 9 → (r.refusal ≡ n) ↔ (ladder book snapshot question ≡ refused n)
  walked_refusal {r} d n low high = unread_exactly (one_ladder book snapshot question) r.refusal shown n (λ e. omega arith) answered d
    where
      shown : (m : ℕ) → r ≡ refusal_walk_reply m → r.refusal ≡ m
      shown m k = ap (λ (s : WalkReply). s.refusal) k

      answered : (i : Input) → Walks i r → r.refusal ≢ n
      answered i w e = ⊎_elim (λ z. omega arith) (λ z. omega arith) (walks_most w).0

  pub walked_not_plain : {r : WalkReply} → Walked book snapshot question r
      → (r.refusal ≡ book_not_plain) ↔ ((i : Input) × (ladder book snapshot question ≡ accepted i) × (¬ Plain i.rule_set))
  walked_not_plain {r} d = (by d, λ (i, e, n). (not_plain_exactly (walked_answer d e)).1 n)
    where
      by : Walked book snapshot question r → r.refusal ≡ book_not_plain → (i : Input) × (ladder book snapshot question ≡ accepted i) × (¬ Plain i.rule_set)
      by (Served.unread n e k) z = absurd (omega (arith, z, ap (λ (s : WalkReply). s.refusal) k, (ladder-number book snapshot question n e).1))
      by (Served.unlent i e l k) z = absurd (l tt)
      by (Served.answered i e l w) z = (i, e, (not_plain_exactly w).0 z)

  -- None exactly where all is read and the rule set is plain. No other number; no verdict beyond 1, and none with a refusal.
  pub walked_unrefused : {r : WalkReply} → Walked book snapshot question r
      → (r.refusal ≡ 0) ↔ ((i : Input) × (ladder book snapshot question ≡ accepted i) × Plain i.rule_set)
  walked_unrefused {r} d = (by d, λ (i, e, p). plain_answers (walked_answer d e) p)
    where
      by : Walked book snapshot question r → r.refusal ≡ 0 → (i : Input) × (ladder book snapshot question ≡ accepted i) × Plain i.rule_set
      by (Served.unread n e k) z = absurd (omega (arith, z, ap (λ (s : WalkReply). s.refusal) k, (ladder-number book snapshot question n e).0))
      by (Served.unlent i e l k) z = absurd (l tt)
      by (Served.answered i e l w) z = (i, e, answers_plain w z)

  pub walked_most : {r : WalkReply} → Walked book snapshot question r → ((r.refusal ≤ 9) ⊎ (r.refusal ≡ book_not_plain)) × (r.verdict ≤ 1)
  walked_most (Served.unread n e k) = (
    inl (omega (arith, ap (λ (s : WalkReply). s.refusal) k, (ladder-number book snapshot question n e).1)),
    omega (arith, ap (λ (s : WalkReply). s.verdict) k),
  )
  walked_most (Served.unlent i e l k) = absurd (l tt)
  walked_most (Served.answered i e l w) = (⊎_elim (λ z. inl (omega arith)) (λ z. inr z) (walks_most w).0, (walks_most w).1)

  pub walked_refused_alone : {r : WalkReply} → Walked book snapshot question r → r.refusal ≢ 0 → r.verdict ≡ 0
  walked_refused_alone (Served.unread n e k) z = ap (λ (s : WalkReply). s.verdict) k
  walked_refused_alone (Served.unlent i e l k) z = absurd (l tt)
  walked_refused_alone (Served.answered i e l w) z = refused_alone w z

  module _ (table space : List ℕ) {r : Reply} {t x : List ℕ} (decided : Decided book snapshot question table space r t x) (unrefused : r.refusal ≡ 0) where
    -- What the engine answers was read.
    engine_answer : {i : Input} → ladder book snapshot question ≡ accepted i → (FitsInput i × (r.verdict ≡ 1)) ⊎ ((¬ FitsInput i) × (r.verdict ≡ 0))
    engine_answer {i} e = by decided
      where
        by : Decided book snapshot question table space r t x → (FitsInput i × (r.verdict ≡ 1)) ⊎ ((¬ FitsInput i) × (r.verdict ≡ 0))
        by (Served.unread n d k) = absurd (clash (one_ladder book snapshot question) e d)
        by (Served.unlent j d l k) = absurd (omega (arith, ap (λ (r : Reply). r.refusal) k.is_reply))
        by (Served.answered j d l a) = rw (same_input (one_ladder book snapshot question) e d) (engine_verdict a unrefused)

    -- Where neither refuses, the two verdicts are one.
    pub walk_is_engine : {w : WalkReply} → Walked book snapshot question w → w.refusal ≡ 0 → w.verdict ≡ r.verdict
    walk_is_engine walked z =
        let (i, e, plain) = (walked_unrefused walked).0 z in
        let says = walks_verdict (walked_answer walked e) z in
        ⊎_elim (λ (f, v). says.0.1 f ∙ sym v) (λ (n, v). says.1.1 n ∙ sym v) (engine_answer e)
