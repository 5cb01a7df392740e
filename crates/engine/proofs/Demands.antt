-- The three demands, as statements about every outcome that the contracts of `decide`, `find`, `check` and `check_part` allow. The
-- functions of this crate are proved to meet these contracts for all bytes, lengths and lent memory, and to end.
use mathlib.Core.{Path.◌≡◌, Path.refl, Path.sym, Path.ap, Path.ap₂, Path.◌∙◌, Logic.◌↔◌, Logic.◌≢◌, Logic.⊎_elim, Logic.by_cases, List.List, List.map}
use Prim.Native.Nat.{ℕ, ◌*◌, ◌≤◌, ◌<◌, ◌^◌}
use native.Mathlib.{Omega.arith, Decide.ℕ_discrete}
use lib.ListN.{length, take}
use Rattle.semantics.specs.{Lists.zeros, Heap.whole_of, Reader.accepted, Reader.refused, Formats.Input, Formats.ladder, Fact.position, Fact.part_of, Certificate.Opened, Served.Served}
use Rattle.semantics.specs.Contract.{domain_of, FitsInput, FitsPart, SomeFits, CertificateInput, CertificatePart, TrimmedPart, FilledInput, MoreFactsThan, Lent, padded, refusal_reply, Refuses}
use Rattle.semantics.specs.Contract.{Answers, EngineCall, Decided, refusal_part_reply, without_part, Found, Checked, CheckedFor, CheckedPart}
use Rattle.semantics.specs.declared.{Reply.Reply, PartReply.PartReply, CheckReply.CheckReply}
use Rattle.semantics.proofs.{ServedFacts.same_input, ServedFacts.served_answered, ServedFacts.served_both, ServedFacts.unread_exactly, ServedFacts.unlent_exactly, ServedFacts.answered_exactly}
use Rattle.semantics.proofs.{EngineCall.one_ladder, EngineCall.found_call, EngineCall.call_checks, Coding.code_part, Verdict.fits_whole, PartFacts.part_none, PartFacts.part_fits}
use Rattle.semantics.proofs.Theorems as Theorems
use Rattle.engine.proofs.AnswerFacts.{refusal_in, verdict_in, number_answered, eleven_answered, zero_answered, other_answered, verdict_answered, over_answered, table_answered, fits_answered, certificate_answered, empty_answered, refused_in, taken_in, check_answered, taken_answered}

-- the ladder has no other number than 1 to 9
module _ (book snapshot question : List ℕ) where
  never : (n : ℕ) → ((1 ≤ n) × (n ≤ 9) → ⊥) → ¬ (ladder book snapshot question ≡ refused n)
  never n k e = k (Theorems.refusals_one_to_nine book snapshot question n e)

-- ---- the engine

-- Both questions. Of `decide`: `Decided` is an `EngineCall` whose yes says `FitsInput`, with every record for the part. Of `find`:
-- `found_call` makes one of `Found`, whose yes says that some part fits, with the part replied.
module _ (book snapshot question table space : List ℕ) {Yes : Input → Type 0} {part : Input → ℕ} {r : Reply} {t x : List ℕ} (call : EngineCall Yes part book snapshot question table space r t x) where
  shown : (n : ℕ) → Refuses refusal_reply r table space t x n → r.refusal ≡ n
  shown n k = ap refusal_in k.is_reply

  -- ---- demand 1: a verdict or a numbered refusal, in order, with lent memory as promised

  -- Each of 1 to 9 is given exactly where the ladder gives it.
  pub refusal_by_ladder : (n : ℕ) → 1 ≤ n → n ≤ 9 → (r.refusal ≡ n) ↔ (ladder book snapshot question ≡ refused n)
  refusal_by_ladder n low high =
      unread_exactly (one_ladder book snapshot question) r.refusal shown n (λ e. omega arith)
      (λ i w e. ⊎_elim (λ z. omega (arith, z.0)) (λ z. omega (arith, z.0)) (number_answered w)) call

  -- 10 is given exactly where all is read and the lent memory is not as it must be.
  pub refusal_ten : (r.refusal ≡ 10) ↔ ((i : Input) × (ladder book snapshot question ≡ accepted i) × (¬ Lent (length table) (length space)))
  refusal_ten =
      unlent_exactly (one_ladder book snapshot question) r.refusal shown (never book snapshot question 10 (λ z. omega (arith, z.1)))
      (λ i w e. ⊎_elim (λ z. omega (arith, z.0)) (λ z. omega (arith, z.0)) (number_answered w)) call

  -- 11 is given exactly where all is read, the memory is as it must be, and there are more facts than lines.
  pub refusal_eleven : (r.refusal ≡ 11)
      ↔ ((i : Input) × (ladder book snapshot question ≡ accepted i) × Lent (length table) (length space) × MoreFactsThan i (length table))
  refusal_eleven =
      answered_exactly (one_ladder book snapshot question) r.refusal shown 11 (λ e. omega arith) (never book snapshot question 11 (λ z. omega (arith, z.1)))
      (λ i w. eleven_answered w) call

  -- Nothing is refused exactly where all is read, the memory is as it must be, and the facts have space.
  pub no_refusal : (r.refusal ≡ 0)
      ↔ ((i : Input) × (ladder book snapshot question ≡ accepted i) × Lent (length table) (length space) × (¬ MoreFactsThan i (length table)))
  no_refusal =
      answered_exactly (one_ladder book snapshot question) r.refusal shown 0 (λ e. omega arith) (never book snapshot question 0 (λ z. omega (arith, z.0)))
      (λ i w. zero_answered w) call

  -- Always: no number beyond 11, no verdict beyond 1, and with a refusal all other numbers are 0.
  pub refusal_most : r.refusal ≤ 11
  refusal_most = by call
    where
      by : EngineCall Yes part book snapshot question table space r t x → r.refusal ≤ 11
      by (Served.unread n e k) = omega (arith, shown n k, (Theorems.refusals_one_to_nine book snapshot question n e).1)
      by (Served.unlent i e l k) = omega (arith, shown 10 k)
      by (Served.answered i e l w) = ⊎_elim (λ z. omega (arith, z.0)) (λ z. omega (arith, z.0)) (number_answered w)

  pub verdict_most : r.verdict ≤ 1
  verdict_most = by call
    where
      by : EngineCall Yes part book snapshot question table space r t x → r.verdict ≤ 1
      by (Served.unread n e k) = omega (arith, ap verdict_in k.is_reply)
      by (Served.unlent i e l k) = omega (arith, ap verdict_in k.is_reply)
      by (Served.answered i e l w) = verdict_answered w

  pub refused_alone : r.refusal ≢ 0 → r ≡ refusal_reply r.refusal
  refused_alone other = by call
    where
      by : EngineCall Yes part book snapshot question table space r t x → r ≡ refusal_reply r.refusal
      by (Served.unread n e k) = k.is_reply ∙ ap refusal_reply (sym (shown n k))
      by (Served.unlent i e l k) = k.is_reply ∙ ap refusal_reply (sym (shown 10 k))
      by (Served.answered i e l w) = let q = other_answered w other in (over_answered w q).0 ∙ ap refusal_reply (sym q)

  -- A yes is no refusal.
  pub yes_unrefused : r.verdict ≡ 1 → r.refusal ≡ 0
  yes_unrefused v = by call
    where
      by : EngineCall Yes part book snapshot question table space r t x → r.refusal ≡ 0
      by (Served.unread n e k) = absurd (omega (arith, ap verdict_in k.is_reply))
      by (Served.unlent i e l k) = absurd (omega (arith, ap verdict_in k.is_reply))
      by (Served.answered i e l w) = ⊎_elim (λ z. absurd (omega (arith, ap verdict_in (over_answered w z.0).0))) (λ z. z.0) (number_answered w)

  -- Without a yes there are no lines.
  pub no_lines : r.verdict ≡ 0 → r.lines ≡ 0
  no_lines v = by call
    where
      by : EngineCall Yes part book snapshot question table space r t x → r.lines ≡ 0
      by (Served.unread n e k) = ap (λ (r : Reply). r.lines) k.is_reply
      by (Served.unlent i e l k) = ap (λ (r : Reply). r.lines) k.is_reply
      by (Served.answered i e l w) = (empty_answered w v).0

  -- Refusals 1 to 10 leave all memory as it was found, and 11 leaves zeros.
  pub refused_keeps : 1 ≤ r.refusal → r.refusal ≤ 10 → (t ≡ table) × (x ≡ space)
  refused_keeps low high = by call
    where
      by : EngineCall Yes part book snapshot question table space r t x → (t ≡ table) × (x ≡ space)
      by (Served.unread n e k) = (k.same_table, k.same_space)
      by (Served.unlent i e l k) = (k.same_table, k.same_space)
      by (Served.answered i e l w) = absurd (⊎_elim (λ z. omega (arith, z.0)) (λ z. omega (arith, z.0)) (number_answered w))

  pub refused_clears : r.refusal ≡ 11 → (t ≡ zeros (length table)) × (x ≡ zeros (length space))
  refused_clears e =
      let (i, is_read, lent, more) = refusal_eleven.0 e in
      let (a, b, c) = over_answered (served_answered (one_ladder book snapshot question) call is_read lent) e in
      (b, c ∙ ap zeros (sym lent.three))

  -- The user's own premises: the ladder gives no refusal, the lent memory is as it must be, and the facts have space.
  module _ (i : Input) (is_read : ladder book snapshot question ≡ accepted i) (lent : Lent (length table) (length space)) (space-left : ¬ MoreFactsThan i (length table)) where
    answers : Answers i (length table) (Yes i) (part i) r t x
    answers = served_answered (one_ladder book snapshot question) call is_read lent

    pub unrefused : r.refusal ≡ 0
    unrefused = (zero_answered answers).1 space-left

    -- ---- demand 2: the table is the least fixed point, in order, counted, with its rounds

    pub table_filled : (facts : List ℕ) × FilledInput i (length table) r.rounds facts t × (length facts ≡ r.facts)
    table_filled = table_answered answers unrefused

    -- ---- demand 3: fits is what a finished tree by hand shows, and nothing else

    pub fits_exactly : ((r.verdict ≡ 1) ↔ Yes i) × ((r.verdict ≡ 0) ↔ (¬ Yes i))
    fits_exactly = fits_answered answers unrefused

    -- With fits comes a certificate of the engine's kind: the unfolding space has its words and then zeros, and the reply tells how many
    -- lines it has. Without, the space has zeros.
    pub fits_certified : r.verdict ≡ 1 → (words : List ℕ) × (u : TrimmedPart i (part i) words) × (r.lines ≡ u.taken.count) × (x ≡ padded (length space) words)
    fits_certified e =
        let (words, u, count, is_space) = certificate_answered answers e in
        (words, u, count, is_space ∙ ap (λ (n : ℕ). padded n words) (sym lent.three))

    pub fits_not_empty : r.verdict ≡ 0 → (r.lines ≡ 0) × (x ≡ zeros (length space))
    fits_not_empty e = let (none, is_space) = empty_answered answers e in (none, is_space ∙ ap zeros (sym lent.three))

  -- The check takes what the engine writes, given its part.
  pub written_is_taken : r.verdict ≡ 1 → CheckedFor book snapshot question part (take (3 * r.lines) x) (record { refusal = 0; taken = 1 })
  written_is_taken = call_checks book snapshot question table space call

-- ---- the question about some part

same_reply : {r s : Reply} → r.refusal ≡ s.refusal → r.verdict ≡ s.verdict → r.facts ≡ s.facts → r.rounds ≡ s.rounds → r.lines ≡ s.lines → r ≡ s
same_reply a b c d e = rw (a, b, c, d, e) refl

module _ (book snapshot question table space : List ℕ) {r : PartReply} {t x : List ℕ} (found : Found book snapshot question table space r t x) where
  call_of_lem : EngineCall SomeFits (λ (i : Input). r.part) book snapshot question table space (without_part r) t x
  call_of_lem = found_call book snapshot question table space found

  -- With a refusal all other numbers are 0, the part too. Without a yes the part is 0.
  pub find_refused_alone : r.refusal ≢ 0 → r ≡ refusal_part_reply r.refusal
  find_refused_alone other =
      let e = refused_alone book snapshot question table space call_of_lem other in
      let p = part_none book snapshot question table space found (ap verdict_in e) in
      ap₂ (λ (s : Reply) (part : ℕ). record { refusal = s.refusal; verdict = s.verdict; part = part; facts = s.facts; rounds = s.rounds; lines = s.lines }) e p

  pub find_no_part : r.verdict ≡ 0 → r.part ≡ 0
  find_no_part = part_none book snapshot question table space found

  module _ (i : Input) (is_read : ladder book snapshot question ≡ accepted i) where
    -- With a yes the part fits and has no bit beyond the records.
    pub find_part : r.verdict ≡ 1 → FitsPart i r.part × (r.part < 2 ^ length i.heap)
    find_part z =
        let k = part_fits book snapshot question table space found z i is_read in
        (k, Theorems.part_within i (Theorems.read_is_well_formed book snapshot question i is_read) k)

    -- Yes is said exactly if some part fits, and no exactly if none does.
    pub find_exactly : Lent (length table) (length space) → ¬ MoreFactsThan i (length table)
        → ((r.verdict ≡ 1) ↔ SomeFits i) × ((r.verdict ≡ 0) ↔ ((part : ℕ) → ¬ FitsPart i part))
    find_exactly lent room =
        let (a, b) = fits_exactly book snapshot question table space call_of_lem i is_read lent room in
        (a, (λ z part k. b.0 z (part, k), λ none. b.1 (λ (part, k). none part k)))

    -- No is said only where no part fits.
    pub find_none : r.refusal ≡ 0 → r.verdict ≡ 0 → (part : ℕ) → ¬ FitsPart i part
    find_none z v =
        let (j, e, lent, room) = (no_refusal book snapshot question table space call_of_lem).0 z in
        let q : j ≡ i = same_input (one_ladder book snapshot question) e is_read in
        (find_exactly lent (rw q at room)).1.0 v

    -- With a yes the space has a certificate of the engine's kind whose last line is the query with exactly the part replied, and then zeros.
    pub find_certified : r.verdict ≡ 1 → (words : List ℕ) × (u : TrimmedPart i r.part words) × (r.lines ≡ u.taken.count) × (x ≡ padded (length space) words)
    find_certified v =
        let (j, e, lent, room) = (no_refusal book snapshot question table space call_of_lem).0 (yes_unrefused book snapshot question table space call_of_lem v) in
        let q : j ≡ i = same_input (one_ladder book snapshot question) e is_read in
        fits_certified book snapshot question table space call_of_lem i is_read lent (rw q at room) v

  -- The check for the part that is returned takes the certificate that comes with it.
  pub find_taken : r.verdict ≡ 1 → {s : CheckReply} → CheckedPart book snapshot question r.part (take (3 * r.lines) x) s → s ≡ record { refusal = 0; taken = 1 }
  find_taken v checked =
      Theorems.checked_same book snapshot question (λ (i : Input). r.part) (take (3 * r.lines) x) checked (Theorems.found_checks book snapshot question table space found v)

  module _ {s : Reply} {u y : List ℕ} (decided : Decided book snapshot question table space s u y) where
    -- Where the whole heap fits, some part does.
    pub whole_is_found : s.verdict ≡ 1 → r.verdict ≡ 1
    whole_is_found v =
        let (i, e, lent, room) = (no_refusal book snapshot question table space decided).0 (yes_unrefused book snapshot question table space decided v) in
        let k = (fits_exactly book snapshot question table space decided i e lent room).0.0 v in
        (find_exactly i e lent room).0.1 (whole_of i.heap, fits_whole k)

    -- Without a yes the other numbers and all memory are as of `decide`, which then says no too, or refuses.
    pub not_found_like_decided : r.verdict ≡ 0 → (s ≡ without_part r) × (u ≡ t) × (y ≡ x)
    not_found_like_decided v =
        let no : s.verdict ≡ 0 = by_cases (ℕ_discrete s.verdict 1) (λ e. absurd (omega (arith, v, whole_is_found e)))
        (λ n. omega (arith, n, verdict_most book snapshot question table space decided)) in
        let like = Theorems.found_like_decided book snapshot question table space decided found in (
          same_reply like.refusals (no ∙ sym v) like.facts like.rounds
              (no_lines book snapshot question table space decided no ∙ sym (no_lines book snapshot question table space call_of_lem v)),
          like.tables,
          served_both (one_ladder book snapshot question) decided call_of_lem (λ n k l. k.same_space ∙ sym l.same_space)
              (λ i k l. (empty_answered k no).1 ∙ sym (empty_answered l v).1),
        )

-- ---- the check

module _ (book snapshot question words : List ℕ) {part : Input → ℕ} {r : CheckReply} (checked : CheckedFor book snapshot question part words r) where
  check_shown : (n : ℕ) → r ≡ record { refusal = n; taken = 0 } → r.refusal ≡ n
  check_shown n a = ap refused_in a

  -- Each of 1 to 9 is given exactly where the ladder gives it, and 0 exactly where it gives none.
  pub check_refusal : (n : ℕ) → 1 ≤ n → n ≤ 9 → (r.refusal ≡ n) ↔ (ladder book snapshot question ≡ refused n)
  check_refusal n low high =
      unread_exactly (one_ladder book snapshot question) r.refusal check_shown n (λ e. omega arith) (λ i w e. omega (arith, (check_answered w).0)) checked

  pub check_no_refusal : (r.refusal ≡ 0) ↔ ((i : Input) × (ladder book snapshot question ≡ accepted i))
  check_no_refusal =
      let e = answered_exactly (one_ladder book snapshot question) r.refusal check_shown 0 {Due = λ (i : Input). Unit {0}} (λ e. omega arith)
      (never book snapshot question 0 (λ z. omega (arith, z.0))) (λ i w. (λ _. tt, λ _. (check_answered w).0)) checked in
      (λ z. ((e.0 z).0, (e.0 z).1), λ (i, is_read). e.1 (i, is_read, tt, tt))

  -- Always: no number beyond 9, no second number beyond 1, and with a refusal that is 0.
  pub check_refusal_most : r.refusal ≤ 9
  check_refusal_most = by checked
    where
      by : CheckedFor book snapshot question part words r → r.refusal ≤ 9
      by (Served.unread n e a) = omega (arith, check_shown n a, (Theorems.refusals_one_to_nine book snapshot question n e).1)
      by (Served.unlent i e l a) = absurd (l tt)
      by (Served.answered i e l w) = omega (arith, (check_answered w).0)

  pub taken_most : r.taken ≤ 1
  taken_most = by checked
    where
      by : CheckedFor book snapshot question part words r → r.taken ≤ 1
      by (Served.unread n e a) = omega (arith, ap taken_in a)
      by (Served.unlent i e l a) = absurd (l tt)
      by (Served.answered i e l w) = taken_answered w

  pub check_refused_alone : r.refusal ≢ 0 → r.taken ≡ 0
  check_refused_alone other = by checked
    where
      by : CheckedFor book snapshot question part words r → r.taken ≡ 0
      by (Served.unread n e a) = ap taken_in a
      by (Served.unlent i e l a) = absurd (l tt)
      by (Served.answered i e l w) = absurd (other (check_answered w).0)

  -- It takes exactly what is read and meets the conditions for lines.
  pub taken_only : (r.taken ≡ 1) ↔ ((i : Input) × (ladder book snapshot question ≡ accepted i) × CertificatePart i (part i) words)
  taken_only = (by checked, λ (i, is_read, c). (check_answered (served_answered (one_ladder book snapshot question) checked is_read tt)).1.1 c)
    where
      by : CheckedFor book snapshot question part words r → r.taken ≡ 1 → (i : Input) × (ladder book snapshot question ≡ accepted i) × CertificatePart i (part i) words
      by (Served.unread n e a) z = absurd (omega (arith, ap taken_in a))
      by (Served.unlent i e l a) z = absurd (l tt)
      by (Served.answered i e l w) z = (i, e, (check_answered w).1.0 z)

  -- The user's own premise: the ladder gives no refusal.
  pub taken_exactly : (i : Input) → ladder book snapshot question ≡ accepted i
      → (r.refusal ≡ 0) × ((r.taken ≡ 1) ↔ CertificatePart i (part i) words) × ((r.taken ≡ 0) ↔ (¬ CertificatePart i (part i) words))
  taken_exactly i is_read = check_answered (served_answered (one_ladder book snapshot question) checked is_read tt)

-- The check is that of the part of every record.
pub check_is_part : (book snapshot question words : List ℕ) (i : Input) → ladder book snapshot question ≡ accepted i → {r : CheckReply}
    → Checked book snapshot question words r ↔ CheckedPart book snapshot question (whole_of i.heap) words r
check_is_part book snapshot question words i is_read {r} = (to, from)
  where
    same : {j : Input} → ladder book snapshot question ≡ accepted j → i ≡ j
    same e = same_input (one_ladder book snapshot question) is_read e

    to : Checked book snapshot question words r → CheckedPart book snapshot question (whole_of i.heap) words r
    to (Served.unread n e a) = Served.unread n e a
    to (Served.unlent j e l a) = Served.unlent j e l a
    to (Served.answered j e l w) = Served.answered j e l (rw (same e) w)

    from : CheckedPart book snapshot question (whole_of i.heap) words r → Checked book snapshot question words r
    from (Served.unread n e a) = Served.unread n e a
    from (Served.unlent j e l a) = Served.unlent j e l a
    from (Served.answered j e l w) = Served.answered j e l (rw (same e) at w)

-- A certificate stands for a tree by hand: its last line, opened, is a finished tree of the query that has the whole heap. So the query
-- fits.
pub taken_opens : (book snapshot question words : List ℕ) (i : Input) → ladder book snapshot question ≡ accepted i → (c : CertificateInput i words)
    → Opened i.rule_set i.heap (domain_of i) words c.count i.predicate i.values (whole_of i.heap) × FitsInput i
taken_opens book snapshot question words i is_read =
    Theorems.certificate_opens i (Theorems.read_is_well_formed book snapshot question i is_read) words

-- What the check takes for a part, which has 16 bits, opens into a finished tree that has exactly this part. So the part fits.
module _ (book snapshot question words : List ℕ) (part : ℕ) (small : part < 65536) {r : CheckReply} (checked : CheckedPart book snapshot question part words r) where
  pub taken_part_opens : r.taken ≡ 1
      → (i : Input) × (ladder book snapshot question ≡ accepted i) × (c : CertificatePart i part words)
      × Opened i.rule_set i.heap (domain_of i) words c.count i.predicate i.values part × FitsPart i part
  taken_part_opens z =
      let (i, e, c) = (taken_only book snapshot question words checked).0 z in
      let (o, k) = Theorems.certificate_opens_part i (Theorems.read_is_well_formed book snapshot question i e) part small words c in
      (i, e, c, o, k)

  -- A part with a bit beyond the records is not taken, which is no refusal.
  pub beyond_is_not_taken : (i : Input) → ladder book snapshot question ≡ accepted i → 2 ^ length i.heap ≤ part → (r.refusal ≡ 0) × (r.taken ≡ 0)
  beyond_is_not_taken i is_read beyond =
      let (a, _, b) = taken_exactly book snapshot question words checked i is_read in
      let h = Theorems.read_is_well_formed book snapshot question i is_read in
      (a, b.1 (λ c. let within = Theorems.part_within i h (Theorems.certificate_opens_part i h part small words c).1 in omega arith))

-- The same words are taken for one part at most.
pub taken_for_one : (i : Input) (words : List ℕ) (p q : ℕ) → p < 65536 → q < 65536 → CertificatePart i p words → CertificatePart i q words → p ≡ q
taken_for_one i words p q h k c d =
    let e : c.count ≡ d.count = omega (arith, c.whole, d.whole) in
    sym (code_part i.predicate (map (position (domain_of i)) i.values) p h) ∙ ap part_of (sym c.last ∙ rw e d.last) ∙ code_part i.predicate (map (position (domain_of i)) i.values) q k
