-- What the answers of the engine and of the check say, number by number.
use mathlib.Core.{Path.◌≡◌, Path.ap, Logic.◌↔◌, Logic.◌≢◌, Logic.◌⊎◌, Logic.⊎_elim, Logic.inl, Logic.inr, List.List}
use Prim.Native.Nat.{ℕ, ◌*◌, ◌≤◌, ◌<◌}
use native.Mathlib.{Omega.arith, Decide.dec_lt}
use lib.ListN.{length}
use Rattle.semantics.specs.{Lists.zeros, Formats.Input}
use Rattle.semantics.specs.Contract.{CertificatePart, TrimmedPart, CompletedInput, FilledInput, MoreFactsThan, padded, refusal_reply, Answers, Checks}
use Rattle.semantics.specs.declared.{Reply.Reply, CheckReply.CheckReply}
use Rattle.semantics.proofs.{Reached.more_facts, EngineCall.tabled}

-- ---- the engine

abbrev pub refusal_in : Reply → ℕ
refusal_in r = r.refusal

abbrev pub verdict_in : Reply → ℕ
verdict_in r = r.verdict

-- the facts have space exactly if the complete table has not more than n
pub room_counted : (i : Input) {rounds : ℕ} {facts : List ℕ} → CompletedInput i rounds facts → (n : ℕ) → (¬ MoreFactsThan i n) ↔ (length facts ≤ n)
room_counted i {rounds} {facts} c n = (by (dec_lt n (length facts)), λ l m. omega (arith, (more_facts i c n).0 m))
  where
    by : Dec (n < length facts) → ¬ MoreFactsThan i n → length facts ≤ n
    by (yes l) k = absurd (k ((more_facts i c n).1 l))
    by (no l) k = omega arith

module _ {i : Input} {n : ℕ} {Yes : Type 0} {part : ℕ} {r : Reply} {t x : List ℕ} where
  -- 11 or 0
  pub number_answered : Answers i n Yes part r t x → ((r.refusal ≡ 11) × MoreFactsThan i n) ⊎ ((r.refusal ≡ 0) × (¬ MoreFactsThan i n))
  number_answered w =
      ⊎_elim (λ over. inl (ap refusal_in over.1, over.0)) (λ f. inr (f.unrefused, (room_counted i f.filled.completed n).1 f.filled.room)) (tabled i n w)

  pub eleven_answered : Answers i n Yes part r t x → (r.refusal ≡ 11) ↔ MoreFactsThan i n
  eleven_answered w = ⊎_elim (λ z. (λ e. z.1, λ m. z.0)) (λ z. (λ e. absurd (omega (arith, z.0)), λ m. absurd (z.1 m))) (number_answered w)

  pub zero_answered : Answers i n Yes part r t x → (r.refusal ≡ 0) ↔ (¬ MoreFactsThan i n)
  zero_answered w = ⊎_elim (λ z. (λ e. absurd (omega (arith, z.0)), λ m. absurd (m z.1))) (λ z. (λ e. z.1, λ m. z.0)) (number_answered w)

  pub other_answered : Answers i n Yes part r t x → r.refusal ≢ 0 → r.refusal ≡ 11
  other_answered w k = ⊎_elim (λ z. z.0) (λ z. absurd (k z.0)) (number_answered w)

  pub over_answered : Answers i n Yes part r t x → r.refusal ≡ 11 → (r ≡ refusal_reply 11) × (t ≡ zeros n) × (x ≡ zeros (3 * n))
  over_answered w e = ⊎_elim (λ over. (over.1, over.2, over.3)) (λ f. absurd (omega (arith, f.unrefused))) (tabled i n w)

  pub table_answered : Answers i n Yes part r t x → r.refusal ≡ 0 → (facts : List ℕ) × FilledInput i n r.rounds facts t × (length facts ≡ r.facts)
  table_answered w e = ⊎_elim (λ over. absurd (omega (arith, ap refusal_in over.1))) (λ f. (f.facts, f.filled, f.counted)) (tabled i n w)

  pub verdict_answered : Answers i n Yes part r t x → r.verdict ≤ 1
  verdict_answered (Answers.over m a b c) = omega (arith, ap verdict_in a)
  verdict_answered (Answers.fits rounds facts words f v u a c) = omega (arith, ap verdict_in a)
  verdict_answered (Answers.fits_not rounds facts f v a c) = omega (arith, ap verdict_in a)

  pub fits_answered : Answers i n Yes part r t x → r.refusal ≡ 0 → ((r.verdict ≡ 1) ↔ Yes) × ((r.verdict ≡ 0) ↔ (¬ Yes))
  fits_answered (Answers.over m a b c) e = absurd (omega (arith, ap refusal_in a))
  fits_answered (Answers.fits rounds facts words f v u a c) e =
      let q = ap verdict_in a in ((λ _. v, λ _. q), (λ z. absurd (omega (arith, q)), λ k. absurd (k v)))
  fits_answered (Answers.fits_not rounds facts f v a c) e =
      let q = ap verdict_in a in ((λ z. absurd (omega (arith, q)), λ k. absurd (v k)), (λ _. v, λ _. q))

  pub certificate_answered : Answers i n Yes part r t x → r.verdict ≡ 1 → (words : List ℕ) × (u : TrimmedPart i part words) × (r.lines ≡ u.taken.count) × (x ≡ padded (3 * n) words)
  certificate_answered (Answers.over m a b c) e = absurd (omega (arith, ap verdict_in a))
  certificate_answered (Answers.fits rounds facts words f v u a c) e = (words, u, ap (λ (r : Reply). r.lines) a, c)
  certificate_answered (Answers.fits_not rounds facts f v a c) e = absurd (omega (arith, ap verdict_in a))

  pub empty_answered : Answers i n Yes part r t x → r.verdict ≡ 0 → (r.lines ≡ 0) × (x ≡ zeros (3 * n))
  empty_answered (Answers.over m a b c) e = (ap (λ (r : Reply). r.lines) a, c)
  empty_answered (Answers.fits rounds facts words f v u a c) e = absurd (omega (arith, ap verdict_in a))
  empty_answered (Answers.fits_not rounds facts f v a c) e = (ap (λ (r : Reply). r.lines) a, c)

-- ---- the check

abbrev pub refused_in : CheckReply → ℕ
refused_in r = r.refusal

abbrev pub taken_in : CheckReply → ℕ
taken_in r = r.taken

module _ {i : Input} {part : ℕ} {words : List ℕ} {r : CheckReply} where
  pub check_answered : Checks i part words r → (r.refusal ≡ 0) × ((r.taken ≡ 1) ↔ CertificatePart i part words) × ((r.taken ≡ 0) ↔ (¬ CertificatePart i part words))
  check_answered (Checks.takes c a) =
      let q = ap taken_in a in
      (ap refused_in a, (λ _. c, λ _. q), (λ z. absurd (omega (arith, q)), λ k. absurd (k c)))
  check_answered (Checks.takes_not c a) =
      let q = ap taken_in a in
      (ap refused_in a, (λ z. absurd (omega (arith, q)), λ k. absurd (c k)), (λ _. c, λ _. q))

  pub taken_answered : Checks i part words r → r.taken ≤ 1
  taken_answered (Checks.takes c a) = omega (arith, ap taken_in a)
  taken_answered (Checks.takes_not c a) = omega (arith, ap taken_in a)
