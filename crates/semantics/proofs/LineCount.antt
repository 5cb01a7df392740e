-- How many lines a certificate of the engine's kind has: a test that computes. It goes from the last line to the first, with the facts
-- passed, and those that a line passed calls and that are yet to come.
use Rattle.semantics.proofs.{Bits.in_rest, DomainFacts.member_false, FixedPoint.line_holds, FixedPoint.complete_has}
use mathlib.Core.{Bool.Bool, Bool.true, Bool.false, Bool.false≢true, Path.◌≡◌, Path.refl, Path.sym, Path.ap, Path.◌∙◌}
use mathlib.Core.Logic.{◌≢◌, ⊎_elim, by_cases}
use mathlib.Core.List.Memᴰ
use mathlib.Core.List.{List, [], ◌∷◌, ◌++◌, map, flat_map}
use Prim.Native.Nat.{ℕ, zero, suc, ◌≤◌, ◌<◌}
use native.Mathlib.{Omega.arith, Decide.ℕ_discrete}
use lib.Dec.{eqb}
use borrow.Author.Tests.{eq-eqb, ne_eqb}
use Rattle.semantics.specs.{Lists.◌among◌, Lists.member, RuleSet.RuleSet, Heap.Heap, Heap.whole_of, Domain.domain, Fact.fact, Rounds.Complete}
use Rattle.semantics.specs.Certificate.{fact_at, Trimmed}
use Rattle.semantics.proofs.Evaluator.{when, both, Step, steps, every}
use Rattle.semantics.proofs.Evaluation.{flat_in, when_in, both_out, steps_in, every_out}

-- the ways in which a fact follows
unfoldable pub ways : List Step → ℕ → List (List ℕ)
ways all f = flat_map (λ (s : Step). when (eqb s.conclusion f) s.called) all

unfoldable pub leave : ℕ → List ℕ → List ℕ
leave f [] = []
leave f (g ∷ gs) = elim (eqb f g) [ true ↦ leave f gs | false ↦ g ∷ leave f gs ]

unfoldable pub is_empty : List ℕ → Bool
is_empty [] = true
is_empty (g ∷ gs) = false

unfoldable pub is_some : List ℕ → Bool
is_some [] = false
is_some (g ∷ gs) = true

-- no fact of the one list is in the other
unfoldable pub avoids : List ℕ → List ℕ → Bool
avoids [] passed = true
avoids (g ∷ gs) passed = elim (member g passed) [ true ↦ false | false ↦ avoids gs passed ]

-- with these facts to come and those passed, every way down has exactly n lines; a way that calls a fact passed is none
unfoldable pub exactly : List Step → ℕ → List ℕ → List ℕ → Bool
exactly all zero need passed = is_empty need
exactly all (suc n) need passed =
    both (is_some need)
    (every (λ (f : ℕ). every (λ (called : List ℕ).
    elim (avoids called (f ∷ passed)) [ true ↦ exactly all n (leave f need ++ called) (f ∷ passed) | false ↦ true ]) (ways all f)) need)

avoids_in : (gs passed : List ℕ) → ((g : ℕ) → g among gs → ¬ (g among passed)) → avoids gs passed ≡ true
unfolding avoids
avoids_in [] passed h = refl
avoids_in (g ∷ gs) passed h = rw (member_false g passed (h g (Memᴰ.head refl)), avoids) (avoids_in gs passed (λ x m. h x (Memᴰ.tail m)))

pub leave_in : (f : ℕ) (gs : List ℕ) (h : ℕ) → h among gs → f ≢ h → h among leave f gs
unfolding leave
leave_in f [] h m n = m
leave_in f (g ∷ gs) h m n =
    by_cases (ℕ_discrete f g) (λ e. rw (eq-eqb f g e, leave) (leave_in f gs h (in_rest (λ q. n (e ∙ sym q)) m) n))
    (λ d. rw (ne_eqb f g d, leave) (⊎_elim Memᴰ.head (λ k. Memᴰ.tail (leave_in f gs h k n)) (Memᴰ.cases_cons m)))

pub leave_out : (f : ℕ) (gs : List ℕ) (h : ℕ) → h among leave f gs → (h among gs) × (f ≢ h)
unfolding leave
leave_out f [] h m = absurd (Memᴰ.not-nil m)
leave_out f (g ∷ gs) h m =
    by_cases (ℕ_discrete f g) (λ e. let p = leave_out f gs h (rw (eq-eqb f g e, leave) at m) in (Memᴰ.tail p.0, p.1))
    (λ d. ⊎_elim (λ q. (Memᴰ.head q, λ e. d (e ∙ q))) (λ k. let p = leave_out f gs h k in (Memᴰ.tail p.0, p.1))
    (Memᴰ.cases_cons (rw (ne_eqb f g d, leave) at m)))

ways_in : (all : List Step) (f : ℕ) (called : List ℕ) → record { conclusion = f; called = called } among all → called among ways all f
unfolding ways
ways_in all f called m =
    flat_in (λ (s : Step). when (eqb s.conclusion f) s.called) all (record { conclusion = f; called = called }) m
    (when_in (eqb f f) called (eq-eqb f f refl))

empty_out : (gs : List ℕ) → is_empty gs ≡ true → (g : ℕ) → ¬ (g among gs)
unfolding is_empty
empty_out [] e g m = Memᴰ.not-nil m
empty_out (h ∷ gs) e g m = false≢true e

some_out : (gs : List ℕ) → is_some gs ≡ true → (g : ℕ) × (g among gs)
unfolding is_some
some_out [] e = absurd (false≢true e)
some_out (h ∷ gs) e = (h, Memᴰ.head refl)

module _ (rule_set : RuleSet) (heap : Heap) (p : ℕ) (query words : List ℕ) (u : Trimmed rule_set heap (domain rule_set heap query) p query (whole_of heap) words)
    (table : List ℕ) (complete : Complete rule_set heap (domain rule_set heap query) table) where
  -- every line's fact follows, from facts of the table, in one of the ways that were worked out
  line_way : (k : ℕ) → 1 ≤ k → k ≤ u.taken.count
      → map (fact_at words) (u.taken.calls k) among ways (steps rule_set heap (domain rule_set heap query) table) (fact_at words k)
  line_way k low high =
      let t = u.taken.each k low high in
      ways_in (steps rule_set heap (domain rule_set heap query) table) (fact_at words k) (map (fact_at words) (u.taken.calls k))
      (steps_in rule_set heap (domain rule_set heap query) table (map (fact_at words) (u.taken.calls k)) (fact_at words k) t.ground
      (λ g m.
      let (l, i, e) = Memᴰ.of_map (fact_at words) (u.taken.calls k) m in
      let (a, b) = t.earlier l i in
      Memᴰ.cast (sym e) (complete_has rule_set heap (domain rule_set heap query) complete (fact_at words l) (line_holds rule_set heap (domain rule_set heap query) u.taken l l (omega arith) a (omega arith)))))

  -- the lines above k are passed
  record Passed (k : ℕ) (need passed : List ℕ) : Type 0 where
    pub within : k ≤ u.taken.count
    pub next : 1 ≤ k → fact_at words k among need
    pub lower : (g : ℕ) → g among need → (l : ℕ) × (1 ≤ l) × (l ≤ k) × (fact_at words l ≡ g)
    pub called : (j : ℕ) → k < j → j ≤ u.taken.count → (l : ℕ) → l among u.taken.calls j → 1 ≤ l → l ≤ k → fact_at words l among need
    pub upper : (g : ℕ) → g among passed → (l : ℕ) × (k < l) × (l ≤ u.taken.count) × (fact_at words l ≡ g)

  pass : (k : ℕ) (need passed : List ℕ) → Passed (suc k) need passed
      → Passed k (leave (fact_at words (suc k)) need ++ map (fact_at words) (u.taken.calls (suc k))) (fact_at words (suc k) ∷ passed)
  pass k need passed s = record {
    within = omega (arith, s.within);
    next = λ low. let (j, above, high, m) = u.used k low (omega (arith, s.within)) in still j above high k m low (omega arith);
    lower = λ g m. ⊎_elim (old g) (new g) (Memᴰ.append_cases (leave (fact_at words (suc k)) need) m);
    called = still;
    upper = λ g m. ⊎_elim (λ e. (suc k, omega arith, s.within, sym e)) (λ i. let (l, above, high, e) = s.upper g i in (l, omega arith, high, e)) (Memᴰ.cases_cons m);
  }
    where
      still : (j : ℕ) → k < j → j ≤ u.taken.count → (l : ℕ) → l among u.taken.calls j → 1 ≤ l → l ≤ k
          → fact_at words l among leave (fact_at words (suc k)) need ++ map (fact_at words) (u.taken.calls (suc k))
      still j above high l m low below =
          by_cases (ℕ_discrete j (suc k)) (λ e. Memᴰ.append_right (leave (fact_at words (suc k)) need) (Memᴰ.map (fact_at words) (rw e at m)))
          (λ d. Memᴰ.append_left (map (fact_at words) (u.taken.calls (suc k)))
          (leave_in (fact_at words (suc k)) need (fact_at words l) (s.called j (omega arith) high l m low (omega arith))
          (λ q. u.once l (suc k) low (omega arith) s.within (sym q))))

      old : (g : ℕ) → g among leave (fact_at words (suc k)) need → (l : ℕ) × (1 ≤ l) × (l ≤ k) × (fact_at words l ≡ g)
      old g m =
          let (i, d) = leave_out (fact_at words (suc k)) need g m in
          let (l, low, high, e) = s.lower g i in
          (l, low, lesser l high (λ q. d (ap (fact_at words) (sym q) ∙ e)), e)
        where
          lesser : (l : ℕ) → l ≤ suc k → (l ≡ suc k → ⊥) → l ≤ k
          lesser l h n = by_cases (ℕ_discrete l (suc k)) (λ e. absurd (n e)) (λ d. omega arith)

      new : (g : ℕ) → g among map (fact_at words) (u.taken.calls (suc k)) → (l : ℕ) × (1 ≤ l) × (l ≤ k) × (fact_at words l ≡ g)
      new g m =
          let (l, i, e) = Memᴰ.of_map (fact_at words) (u.taken.calls (suc k)) m in
          let (a, b) = (u.taken.each (suc k) (omega arith) s.within).earlier l i in
          (l, a, omega arith, e)

  -- the calls of a line avoid the lines passed
  calls_avoid : (k : ℕ) (passed : List ℕ) → k ≤ u.taken.count → 1 ≤ k
      → ((g : ℕ) → g among passed → (l : ℕ) × (k ≤ l) × (l ≤ u.taken.count) × (fact_at words l ≡ g))
      → avoids (map (fact_at words) (u.taken.calls k)) passed ≡ true
  calls_avoid k passed high low upper =
      avoids_in (map (fact_at words) (u.taken.calls k)) passed (λ g m i.
      let (l, c, e) = Memᴰ.of_map (fact_at words) (u.taken.calls k) m in
      let (a, b) = (u.taken.each k low high).earlier l c in
      let (l', above, high', e') = upper g i in
      u.once l l' a (omega arith) high' (e ∙ sym e'))

  count_from : (n k : ℕ) (need passed : List ℕ) → Passed k need passed
      → exactly (steps rule_set heap (domain rule_set heap query) table) n need passed ≡ true → k ≡ n
  unfolding exactly
  count_from zero zero need passed s e = refl
  count_from zero (suc k) need passed s e = absurd (empty_out need e (fact_at words (suc k)) (s.next (omega arith)))
  count_from (suc n) zero need passed s e =
      let all : List Step = steps rule_set heap (domain rule_set heap query) table in
      let (t, r) = both_out (is_some need) (every (λ (g : ℕ). every (λ (called : List ℕ).
      elim (avoids called (g ∷ passed)) [ true ↦ exactly all n (leave g need ++ called) (g ∷ passed) | false ↦ true ]) (ways all g)) need) e in
      let (g, m) = some_out need t in
      let (l, low, high, q) = s.lower g m in
      absurd (omega arith)
  count_from (suc n) (suc k) need passed s e =
      let all : List Step = steps rule_set heap (domain rule_set heap query) table in
      let f : ℕ = fact_at words (suc k) in
      let mine : List ℕ = map (fact_at words) (u.taken.calls (suc k)) in
      let (t, r) = both_out (is_some need) (every (λ (g : ℕ). every (λ (called : List ℕ).
      elim (avoids called (g ∷ passed)) [ true ↦ exactly all n (leave g need ++ called) (g ∷ passed) | false ↦ true ]) (ways all g)) need) e in
      let here = every_out (λ (g : ℕ). every (λ (called : List ℕ).
      elim (avoids called (g ∷ passed)) [ true ↦ exactly all n (leave g need ++ called) (g ∷ passed) | false ↦ true ]) (ways all g)) need r f (s.next (omega arith)) in
      let way : (elim (avoids mine (f ∷ passed)) as (λ b. Bool) [ true ↦ exactly all n (leave f need ++ mine) (f ∷ passed) | false ↦ true ]) ≡ true =
      every_out (λ (called : List ℕ). elim (avoids called (f ∷ passed)) [ true ↦ exactly all n (leave f need ++ called) (f ∷ passed) | false ↦ true ])
      (ways all f) here mine (line_way (suc k) (omega arith) s.within) in
      let clear : avoids mine (f ∷ passed) ≡ true = calls_avoid (suc k) (f ∷ passed) s.within (omega arith)
      (λ g m. ⊎_elim (λ q. (suc k, omega arith, s.within, sym q)) (λ i. let (l, above, high, q) = s.upper g i in (l, omega arith, high, q)) (Memᴰ.cases_cons m)) in
      ap suc (count_from n k (leave f need ++ mine) (f ∷ passed) (pass k need passed s) (rw clear at way))

  -- the number of lines of a certificate of the engine's kind
  pub line_count : (n : ℕ) → exactly (steps rule_set heap (domain rule_set heap query) table) n (fact (domain rule_set heap query) p query (whole_of heap) ∷ []) [] ≡ true
      → u.taken.count ≡ n
  line_count n e = count_from n u.taken.count (fact (domain rule_set heap query) p query (whole_of heap) ∷ []) [] start e
    where
      start : Passed u.taken.count (fact (domain rule_set heap query) p query (whole_of heap) ∷ []) []
      start = record {
        within = omega arith;
        next = λ low. Memᴰ.head u.taken.last;
        lower = λ g m. (
          u.taken.count,
          u.taken.some,
          omega arith,
          u.taken.last ∙ ⊎_elim sym (λ k. absurd (Memᴰ.not-nil k)) (Memᴰ.cases_cons m),
        );
        called = λ j above high. absurd (omega arith);
        upper = λ g m. absurd (Memᴰ.not-nil m);
      }
