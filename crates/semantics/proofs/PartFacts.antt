-- The question about some part. Whether one fits is read off the complete table: a part fits exactly if the query's fact with it stands
-- there. The contract of `find` can be met, with each part that fits; the part is one that fits where the verdict is 1, and else 0.
use mathlib.Core.{Path.◌≡◌, Path.refl, Path.sym, Path.ap, Logic.◌⊎◌, Logic.inl, Logic.inr, Logic.⊎_elim, Logic.by_cases}
use mathlib.Core.List.Memᴰ
use mathlib.Core.List.{List, [], ◌∷◌, map}
use Prim.Native.Nat.{ℕ, ◌*◌, ◌≤◌, ◌<◌, ◌^◌}
use native.Mathlib.{Omega.arith, Decide.ℕ_discrete}
use lib.ListN.{length}
use Rattle.semantics.specs.{Lists.◌among◌, Reader.accepted, Formats.Input, Formats.ladder, Formats.WellFormedInput, Served.Served, Fact.position, Fact.fact, Fact.part_of}
use Rattle.semantics.specs.Contract.{domain_of, FitsPart, SomeFits, Lent, MoreFactsThan, CompletedInput, refusal_part_reply, Refuses, Answers, Finds, Found}
use Rattle.semantics.proofs.{Bits.set_of_below, Coding.code_part, Parts.tree_below, Soundness.part_small, Verdict.limits, Verdict.part_verdict}
use Rattle.semantics.proofs.{Reached.completed_exists, ServedFacts.serves, ServedFacts.same_input, FormatsFacts.ladder_read, EngineCall.one_ladder}
use Rattle.semantics.proofs.ContractExists.{lent_decided, Returned, AnswersBy, answer_exists}
use Rattle.semantics.specs.declared.{Reply.Reply, PartReply.PartReply}

-- The fact is the query's, of whatever part.
abbrev pub OfQuery : Input → ℕ → Type 0
OfQuery i f = f ≡ fact (domain_of i) i.predicate i.values (part_of f)

-- A part that fits has no bit beyond the records.
pub fits_within : {i : Input} {part : ℕ} → FitsPart i part → part < 2 ^ length i.heap
fits_within {i} k = rw k.part_taken (set_of_below (length i.heap) k.taken k.once (λ j m. tree_below k.tree j m))

module _ (i : Input) (h : WellFormedInput i) where
  pub fitting_small : (part : ℕ) → FitsPart i part → part < 65536
  fitting_small part k = part_small i.rule_set i.heap (domain_of i) (limits i.rule_set i.heap i.values h.valid) k

  module _ {r : ℕ} {xs : List ℕ} (c : CompletedInput i r xs) where
    pub table_fits : (f : ℕ) → f among xs → OfQuery i f → FitsPart i (part_of f)
    table_fits f m e =
        (part_verdict i.rule_set i.heap i.values h.valid c.after c.complete i.predicate i.values h.counted (λ v k. k) (part_of f) (omega arith)).0 (rw e at m)

    pub fits_table : (part : ℕ) → FitsPart i part → (f : ℕ) × (f among xs) × OfQuery i f
    fits_table part k =
        let small = fitting_small part k in
        let f : ℕ = fact (domain_of i) i.predicate i.values part in (
          f,
          (part_verdict i.rule_set i.heap i.values h.valid c.after c.complete i.predicate i.values h.counted (λ v k. k) part small).1 k,
          ap (fact (domain_of i) i.predicate i.values) (sym (code_part i.predicate (map (position (domain_of i)) i.values) part small)),
        )

    -- some part fits, or none
    pub part_decided : ((part : ℕ) × FitsPart i part) ⊎ ((part : ℕ) → ¬ FitsPart i part)
    part_decided = ⊎_elim (λ (f, m, e). inl (part_of f, table_fits f m e)) (λ none. inr (λ part k. let (f, m, e) = fits_table part k in none f m e)) (look xs)
      where
        look : (ys : List ℕ) → ((f : ℕ) × (f among ys) × OfQuery i f) ⊎ ((f : ℕ) → f among ys → ¬ OfQuery i f)
        look [] = inr (λ f m. absurd (Memᴰ.not-nil m))
        look (y ∷ ys) =
            by_cases (ℕ_discrete y (fact (domain_of i) i.predicate i.values (part_of y))) (λ e. inl (y, Memᴰ.head refl, e))
            (λ d. ⊎_elim (λ (f, m, e). inl (f, Memᴰ.tail m, e)) (λ none. inr (λ f m e. ⊎_elim (λ q. d (rw q at e)) (λ k. none f k e) (Memᴰ.cases_cons m))) (look ys))

-- ---- the contract of `find`

-- a yes is what the verdict says
says : {i : Input} {n : ℕ} {Yes : Type 0} {part : ℕ} {r : Reply} {t x : List ℕ} → Answers i n Yes part r t x → r.verdict ≡ 1 → Yes
says (Answers.over m a b c) z = absurd (omega (arith, ap (λ (r : Reply). r.verdict) a))
says (Answers.fits rounds facts words f v u a c) z = v
says (Answers.fits_not rounds facts f v a c) z = absurd (omega (arith, ap (λ (r : Reply). r.verdict) a))

yes_said : {i : Input} {n : ℕ} {Yes : Type 0} {part : ℕ} {r : Reply} {t x : List ℕ} → Yes → ¬ MoreFactsThan i n → Answers i n Yes part r t x → r.verdict ≡ 1
yes_said y room (Answers.over m a b c) = absurd (room m)
yes_said y room (Answers.fits rounds facts words f v u a c) = ap (λ (r : Reply). r.verdict) a
yes_said y room (Answers.fits_not rounds facts f v a c) = absurd (v y)

-- without a yes no part is shown
other_part : {i : Input} {n : ℕ} {Yes : Type 0} {part q : ℕ} {r : Reply} {t x : List ℕ} → Answers i n Yes part r t x → (r.verdict ≡ 1 → q ≡ part) → Answers i n Yes q r t x
other_part (Answers.over m a b c) e = Answers.over m a b c
other_part (Answers.fits rounds facts words f v u a c) e = rw (e (ap (λ (r : Reply). r.verdict) a)) (Answers.fits rounds facts words f v u a c)
other_part (Answers.fits_not rounds facts f v a c) e = Answers.fits_not rounds facts f v a c

-- an answer with the part that it shows, or 0
named : Returned Reply → ℕ → Returned PartReply
named o part =
    let r = o.reply in
    record { reply = record { refusal = r.refusal; verdict = r.verdict; part = r.verdict * part; facts = r.facts; rounds = r.rounds; lines = r.lines }; table = o.table; space = o.space }

finds-named : (i : Input) (n part : ℕ) → (SomeFits i → FitsPart i part) → (o : Returned Reply) → AnswersBy i n (SomeFits i) part o
    → let p = named o part in Finds i n p.reply p.table p.space
unfolding named
finds-named i n part fit o a = record { answers = other_part a yes_part; fits = λ z. rw (yes_part z) (fit (says a z)); none = no_part }
  where
    yes_part : o.reply.verdict ≡ 1 → o.reply.verdict * part ≡ part
    yes_part z = rw z (omega arith)

    no_part : o.reply.verdict ≡ 0 → o.reply.verdict * part ≡ 0
    no_part z = rw z (omega arith)

finds_exists : (i : Input) → WellFormedInput i → (n : ℕ) → n ≤ 65535 → (o : Returned PartReply) × Finds i n o.reply o.table o.space
finds_exists i h n l =
    let (r, xs, c) = completed_exists i h in
    ⊎_elim
    (λ (part, k). let (o, a) = answer_exists i h n l part (inl ((part, k), k)) in (named o part, finds-named i n part (λ _. k) o a))
    (λ none. let (o, a) = answer_exists i h n l 0 (inr (λ (part, k). none part k)) in (named o 0, finds-named i n 0 (λ (part, k). absurd (none part k)) o a))
    (part_decided i h c)

module _ (book snapshot question table space : List ℕ) where
  -- It can be met.
  pub found_exists : (o : Returned PartReply) × Found book snapshot question table space o.reply o.table o.space
  found_exists =
      serves {Refuses = λ (o : Returned PartReply) (n : ℕ). Refuses refusal_part_reply o.reply table space o.table o.space n}
      {Answered = λ (o : Returned PartReply) (i : Input). Finds i (length table) o.reply o.table o.space}
      (ladder book snapshot question) refl (lent_decided (length table) (length space))
      (λ n. (record { reply = refusal_part_reply n; table = table; space = space }, record { is_reply = refl; same_table = refl; same_space = refl }))
      (λ i e l. finds_exists i (ladder_read book snapshot question i e) (length table) l.most)

  -- Each part that fits may be the one returned.
  pub found_each : (i : Input) → ladder book snapshot question ≡ accepted i → Lent (length table) (length space) → ¬ MoreFactsThan i (length table) → (part : ℕ) → FitsPart i part
      → (o : Returned PartReply) × Found book snapshot question table space o.reply o.table o.space × (o.reply.verdict ≡ 1) × (o.reply.part ≡ part)
  unfolding named
  found_each i e lent room part k =
      let (o, a) = answer_exists i (ladder_read book snapshot question i e) (length table) lent.most {Yes = SomeFits i} part (inl ((part, k), k)) in
      let z : o.reply.verdict ≡ 1 = yes_said (part, k) room a in
      (named o part, Served.answered i e lent (finds-named i (length table) part (λ _. k) o a), z, rw z (omega arith))

  module _ {r : PartReply} {t x : List ℕ} (found : Found book snapshot question table space r t x) where
    -- Without a yes the part is 0.
    pub part_none : r.verdict ≡ 0 → r.part ≡ 0
    part_none z = by found
      where
        by : Found book snapshot question table space r t x → r.part ≡ 0
        by (Served.unread n e k) = ap (λ (r : PartReply). r.part) k.is_reply
        by (Served.unlent i e l k) = ap (λ (r : PartReply). r.part) k.is_reply
        by (Served.answered i e l w) = w.none z

    -- With a yes it fits.
    pub part_fits : r.verdict ≡ 1 → (i : Input) → ladder book snapshot question ≡ accepted i → FitsPart i r.part
    part_fits z i e = by found
      where
        by : Found book snapshot question table space r t x → FitsPart i r.part
        by (Served.unread n d k) = absurd (omega (arith, ap (λ (r : PartReply). r.verdict) k.is_reply))
        by (Served.unlent j d l k) = absurd (omega (arith, ap (λ (r : PartReply). r.verdict) k.is_reply))
        by (Served.answered j d l w) = rw (same_input (one_ladder book snapshot question) e d) (w.fits z)
