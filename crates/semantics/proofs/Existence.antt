-- Where the query fits, there is a certificate of the engine's kind: build the facts that the query's fact needs, oldest first, drop those
-- that nothing needs, and write a line for each.
use mathlib.Core.{Bool.true, Bool.false, Path.◌≡◌, Path.refl, Path.sym, Path.ap, Path.ap₂, Path.◌∙◌}
use mathlib.Core.Logic.{◌≢◌, ◌⊎◌, inl, inr, ⊎_elim, by_cases}
use mathlib.Core.List.Memᴰ
use mathlib.Core.List.{List, [], ◌∷◌, ◌++◌, map}
use Prim.Native.Nat.{ℕ, suc, ◌+◌, ◌*◌, ◌≤◌, ◌<◌}
use native.Mathlib.{Omega.arith, Decide.ℕ_discrete}
use lib.{ListN.length, ListN.get_or, ListN.length-append, ListN.get_or-append, Seq.get_or-append-add, Dec.eqb}
use borrow.Author.Tests.{eq-eqb, ne_eqb}
use Rattle.semantics.specs.{Lists.◌among◌, Lists.Distinct, Lists.digits, RuleSet.RuleSet, RuleSet.blank_rule, Heap.Heap, Formats.Valid}
use Rattle.semantics.specs.{Tree.ByHand, Domain.domain, Fact.position, Fact.fact}
use Rattle.semantics.specs.Rounds.{Ground, Complete, After, Holds, AllHold}
use Rattle.semantics.specs.Certificate.{fact_at, LineHolds, Trimmed}
use Rattle.semantics.proofs.{Bits.dec_in, Bits.in_rest, Coding.spot, DomainFacts.query-good}
use Rattle.semantics.proofs.FixedPoint.{same_ground, holds_closed, table_holds, holding_counted}
use Rattle.semantics.proofs.{Verdict.completeness, LineCount.leave, LineCount.leave_in, LineCount.leave_out}

module _ (rule_set : RuleSet) (heap : Heap) (values : List ℕ) where
  -- Facts, newest first, each from older ones, none twice.
  pub data Built : List ℕ → Type 0 where
    none : Built []
    more : {f : ℕ} {fs : List ℕ} (called : List ℕ) → Ground rule_set heap values called f → ((g : ℕ) → g among called → g among fs) → ¬ (f among fs)
        → Built fs → Built (f ∷ fs)

  built_distinct : {fs : List ℕ} → Built fs → Distinct fs
  built_distinct Built.none = Distinct.none
  built_distinct (Built.more called g k n b) = Distinct.next n (built_distinct b)

  -- what holds can be built, on top of what is built
  record Grown (fs gs : List ℕ) : Type 0 where
    pub facts : List ℕ
    pub built : Built facts
    pub old : (g : ℕ) → g among fs → g among facts
    pub new : (g : ℕ) → g among gs → g among facts

  grown_fact : (fs called : List ℕ) (f : ℕ) → Ground rule_set heap values called f → Grown fs called → Grown fs (f ∷ [])
  grown_fact fs called f g w = step (dec_in f w.facts)
    where
      step : Dec (f among w.facts) → Grown fs (f ∷ [])
      step (yes m) = record {
        facts = w.facts;
        built = w.built;
        old = w.old;
        new = λ h k. ⊎_elim (λ e. Memᴰ.cast e m) (λ i. absurd (Memᴰ.not-nil i)) (Memᴰ.cases_cons k);
      }
      step (no n) = record {
        facts = f ∷ w.facts;
        built = Built.more called g w.new n w.built;
        old = λ h k. Memᴰ.tail (w.old h k);
        new = λ h k. ⊎_elim Memᴰ.head (λ i. absurd (Memᴰ.not-nil i)) (Memᴰ.cases_cons k);
      }

  grown_all : (fs gs : List ℕ) (f : ℕ) → (w : Grown fs (f ∷ [])) → Grown w.facts gs → Grown fs (f ∷ gs)
  grown_all fs gs f w v = record {
    facts = v.facts;
    built = v.built;
    old = λ g m. v.old g (w.old g m);
    new = λ g m. ⊎_elim (λ e. v.old g (w.new g (Memᴰ.head e))) (v.new g) (Memᴰ.cases_cons m);
  }

  mutual
    grow : {f : ℕ} → Holds rule_set heap values f → (fs : List ℕ) → Built fs → Grown fs (f ∷ [])
    grow {f} (Holds.holds {called = called} g all) fs b = grown_fact fs called f g (grow_all all fs b)

    grow_all : {gs : List ℕ} → AllHold rule_set heap values gs → (fs : List ℕ) → Built fs → Grown fs gs
    grow_all AllHold.none fs b = record { facts = fs; built = b; old = λ g m. m; new = λ g m. absurd (Memᴰ.not-nil m) }
    grow_all (AllHold.next {f = f} {fs = gs} h hs) fs b =
        let w = grow h fs b in
        grown_all fs gs f w (grow_all hs w.facts w.built)

  -- some fact of the list calls g
  abbrev CalledIn : {fs : List ℕ} → Built fs → ℕ → Type 0
  CalledIn Built.none g = ⊥
  CalledIn (Built.more called gr k n b) g = (g among called) ⊎ CalledIn b g

  -- only what is needed
  record Pruned (need fs : List ℕ) : Type 0 where
    pub facts : List ℕ
    pub built : Built facts
    pub has : (g : ℕ) → g among need → g among facts
    pub within : (g : ℕ) → g among facts → g among fs
    pub used : (g : ℕ) → g among facts → (g among need) ⊎ CalledIn built g

  skip : (f : ℕ) (need fs : List ℕ) → Pruned need fs → Pruned need (f ∷ fs)
  skip f need fs r = record { facts = r.facts; built = r.built; has = r.has; within = λ g m. Memᴰ.tail (r.within g m); used = r.used }

  take_in : (f : ℕ) (need called fs : List ℕ) → Ground rule_set heap values called f → ¬ (f among fs) → f among need → Pruned (leave f need ++ called) fs → Pruned need (f ∷ fs)
  take_in f need called fs g n m r = record {
    facts = f ∷ r.facts;
    built = Built.more called g (λ h k. r.has h (Memᴰ.append_right (leave f need) k)) (λ k. n (r.within f k)) r.built;
    has = λ h k. by_cases (ℕ_discrete f h) (λ e. Memᴰ.head (sym e)) (λ d. Memᴰ.tail (r.has h (Memᴰ.append_left called (leave_in f need h k d))));
    within = λ h k. ⊎_elim Memᴰ.head (λ i. Memᴰ.tail (r.within h i)) (Memᴰ.cases_cons k);
    used = λ h k. ⊎_elim (λ e. inl (Memᴰ.cast e m)) (λ i. ⊎_elim
        (λ c. ⊎_elim (λ l. inl (leave_out f need h l).0) (λ l. inr (inl l)) (Memᴰ.append_cases (leave f need) c))
        (λ c. inr (inr c)) (r.used h i)) (Memᴰ.cases_cons k);
  }

  prune : {fs : List ℕ} → Built fs → (need : List ℕ) → ((g : ℕ) → g among need → g among fs) → Pruned need fs
  prune Built.none need h = record { facts = []; built = Built.none; has = h; within = λ g m. m; used = λ g m. absurd (Memᴰ.not-nil m) }
  prune (Built.more {f = f} {fs = fs} called g k n b) need h =
      by_cases (dec_in f need)
      (λ m. take_in f need called fs g n m
      (prune b (leave f need ++ called) (λ x i. ⊎_elim (λ l. let (p, q) = leave_out f need x l in in_rest (λ e. q (sym e)) (h x p)) (k x) (Memᴰ.append_cases (leave f need) i))))
      (λ d. skip f need fs (prune b need (λ x m. in_rest (λ e. d (Memᴰ.cast (sym e) m)) (h x m))))

  -- what is called is older
  called_in_lem : {fs : List ℕ} (b : Built fs) (g : ℕ) → CalledIn b g → g among fs
  called_in_lem Built.none g c = absurd c
  called_in_lem (Built.more called gr k n b) g c = Memᴰ.tail (⊎_elim (k g) (called_in_lem b g) c)

  called_older : {f : ℕ} {fs : List ℕ} (b : Built (f ∷ fs)) (g : ℕ) → CalledIn b g → g among fs
  called_older (Built.more called gr k n b) g c = ⊎_elim (k g) (called_in_lem b g) c

  -- the line of a fact: the oldest is line 1
  line_of : List ℕ → ℕ → ℕ
  line_of [] f = 0
  line_of (g ∷ gs) f = elim (eqb f g) [ true ↦ suc (length gs) | false ↦ line_of gs f ]

  line_head : (f : ℕ) (fs : List ℕ) → line_of (f ∷ fs) f ≡ suc (length fs)
  unfolding line_of
  line_head f fs = rw (eq-eqb f f refl, line_of) refl

  line_tail : (f g : ℕ) (fs : List ℕ) → g ≢ f → line_of (f ∷ fs) g ≡ line_of fs g
  unfolding line_of
  line_tail f g fs n = rw (ne_eqb g f n, line_of) refl

  line_bounds : (fs : List ℕ) (g : ℕ) → g among fs → (1 ≤ line_of fs g) × (line_of fs g ≤ length fs)
  line_bounds [] g m = absurd (Memᴰ.not-nil m)
  line_bounds (f ∷ fs) g m =
      by_cases (ℕ_discrete g f) (λ e. rw (e, line_head f fs) (omega arith, omega arith))
      (λ d. let h = line_bounds fs g (in_rest d m) in rw (line_tail f g fs d) (h.0, omega arith))

  -- the fact of a line
  line_fact : (fs : List ℕ) → Distinct fs → (k : ℕ) → 1 ≤ k → k ≤ length fs → (g : ℕ) × (g among fs) × (line_of fs g ≡ k)
  line_fact [] d k low high = absurd (omega arith)
  line_fact (f ∷ fs) (Distinct.next n d) k low high =
      by_cases (ℕ_discrete k (suc (length fs))) (λ e. (f, Memᴰ.head refl, line_head f fs ∙ sym e))
      (λ q. let (g, m, e) = line_fact fs d k low (omega arith) in (g, Memᴰ.tail m, line_tail f g fs (λ p. n (Memᴰ.cast (sym p) m)) ∙ e))

  -- the three words of a fact
  words_for : (f : ℕ) (fs called : List ℕ) → Ground rule_set heap values called f → List ℕ
  words_for f fs called g =
      f ∷ digits 256 (map (position values) (g.arguments ++ g.bound)) ∷ ((spot blank_rule g.applies.listed).0 + 256 * digits 65536 (map (line_of fs) called)) ∷ []

  words_of : {fs : List ℕ} → Built fs → List ℕ
  words_of Built.none = []
  words_of (Built.more {f = f} {fs = fs} called g k n b) = words_of b ++ words_for f fs called g

  calls_of : {fs : List ℕ} → Built fs → ℕ → List ℕ
  calls_of Built.none l = []
  calls_of (Built.more {fs = fs} called g k n b) l = elim (eqb l (suc (length fs))) [ true ↦ map (line_of fs) called | false ↦ calls_of b l ]

  words_length : {fs : List ℕ} (b : Built fs) → length (words_of b) ≡ 3 * length fs
  unfolding words_of words_for
  words_length Built.none = refl
  words_length (Built.more {f = f} {fs = fs} called g k n b) = omega (arith, length-append (words_of b) (words_for f fs called g), words_length b)

  -- a longer list with the same words so far
  abbrev Agrees : List ℕ → List ℕ → Type 0
  Agrees long short = (i : ℕ) → i < length short → get_or long i 0 ≡ get_or short i 0

  agrees_older : (long short three : List ℕ) → Agrees long (short ++ three) → Agrees long short
  agrees_older long short three a i h = a i (omega (arith, length-append short three)) ∙ get_or-append short three 0 i h

  agrees_newest : (long short three : List ℕ) → Agrees long (short ++ three) → (i : ℕ) → i < length three → get_or long (length short + i) 0 ≡ get_or three i 0
  agrees_newest long short three a i h = a (length short + i) (omega (arith, length-append short three)) ∙ get_or-append-add short three i 0

  module _ (words : List ℕ) where
    -- the fact of a line is where it should be
    fact_there : {fs : List ℕ} (b : Built fs) → Agrees words (words_of b) → (g : ℕ) → g among fs → fact_at words (line_of fs g) ≡ g
    unfolding words_of words_for
    fact_there Built.none a g m = absurd (Memᴰ.not-nil m)
    fact_there (Built.more {f = f} {fs = fs} called gr k n b) a g m =
        by_cases (ℕ_discrete g f)
        (λ e. rw (e, line_head f fs)
        (ap (λ (i : ℕ). get_or words i 0) (omega (arith, words_length b)) ∙ agrees_newest words (words_of b) (words_for f fs called gr) a 0 (omega arith)))
        (λ d. ap (fact_at words) (line_tail f g fs d) ∙ fact_there b (agrees_older words (words_of b) (words_for f fs called gr) a) g (in_rest d m))

    -- the facts of the lines called are the facts called
    facts_back : {fs : List ℕ} (b : Built fs) → Agrees words (words_of b) → (called : List ℕ) → ((g : ℕ) → g among called → g among fs)
        → map (fact_at words) (map (line_of fs) called) ≡ called
    facts_back b a [] h = refl
    facts_back b a (g ∷ gs) h =
        ap₂ (λ (x : ℕ) (xs : List ℕ). x ∷ xs) (fact_there b a g (h g (Memᴰ.head refl))) (facts_back b a gs (λ x m. h x (Memᴰ.tail m)))

    -- the newest line
    newest_taken : (f : ℕ) (fs called : List ℕ) (g : Ground rule_set heap values called f) (b : Built fs) → ((h : ℕ) → h among called → h among fs)
        → Agrees words (words_of b ++ words_for f fs called g) → LineHolds rule_set heap values words (suc (length fs)) (map (line_of fs) called)
    unfolding words_for
    newest_taken f fs called g b k a =
        let older = agrees_older words (words_of b) (words_for f fs called g) a in
        let at = agrees_newest words (words_of b) (words_for f fs called g) a in
        let back = facts_back b older called k in
        let s = spot blank_rule g.applies.listed in
        record {
          earlier = λ l m.
              let (h, i, e) = Memᴰ.of_map (line_of fs) called m in
              let (low, high) = line_bounds fs h (k h i) in
              (omega arith, omega arith);
          ground = same_ground rule_set heap values (sym back) (ap (λ (i : ℕ). get_or words i 0) (omega (arith, words_length b)) ∙ at 0 (omega arith)) g;
          written = record {
            number = s.0;
            in_rule_set = s.1;
            is_rule = s.2;
            positions = ap (λ (i : ℕ). get_or words i 0) (omega (arith, words_length b)) ∙ at 1 (omega arith);
            names = ap (λ (i : ℕ). get_or words i 0) (omega (arith, words_length b)) ∙ at 2 (omega arith);
          };
        }

    line_taken : {fs : List ℕ} (b : Built fs) → Agrees words (words_of b) → (k : ℕ) → 1 ≤ k → k ≤ length fs → LineHolds rule_set heap values words k (calls_of b k)
    unfolding words_of calls_of
    line_taken Built.none a k low high = absurd (omega arith)
    line_taken (Built.more {f = f} {fs = fs} called g kk n b) a k low high =
        by_cases (ℕ_discrete k (suc (length fs))) (λ e. rw (eq-eqb k (suc (length fs)) e, calls_of, e) (newest_taken f fs called g b kk a))
        (λ d. rw (ne_eqb k (suc (length fs)) d, calls_of) (line_taken b (agrees_older words (words_of b) (words_for f fs called g) a) k low (omega arith)))

  -- a fact that is called is called by a later line
  record CalledLine (fs : List ℕ) (b : Built fs) (g : ℕ) : Type 0 where
    pub line : ℕ
    pub later : line_of fs g < line
    pub within : line ≤ length fs
    pub calls : line_of fs g among calls_of b line

  called_line : {fs : List ℕ} (b : Built fs) (g : ℕ) → CalledIn b g → CalledLine fs b g
  unfolding calls_of
  called_line Built.none g c = absurd c
  called_line (Built.more {f = f} {fs = fs} called gr k n b) g c = step c (called_line b g)
    where
      other : g among fs → g ≢ f
      other m e = n (Memᴰ.cast (sym e) m)

      step : (g among called) ⊎ CalledIn b g → (CalledIn b g → CalledLine fs b g) → CalledLine (f ∷ fs) (Built.more {f = f} {fs = fs} called gr k n b) g
      step (inl m) rec = record {
        line = suc (length fs);
        later = rw (line_tail f g fs (other (k g m))) (omega (arith, (line_bounds fs g (k g m)).1));
        within = omega arith;
        calls = rw (line_tail f g fs (other (k g m)), eq-eqb (suc (length fs)) (suc (length fs)) refl, calls_of) (Memᴰ.map (line_of fs) m);
      }
      step (inr d) rec =
          let r = rec d in
          let e = line_tail f g fs (other (called_in_lem b g d)) in
          record {
            line = r.line;
            later = rw e r.later;
            within = omega (arith, r.within);
            calls = rw (e, ne_eqb r.line (suc (length fs)) (λ q. omega (arith, r.within)), calls_of) r.calls;
          }

  -- what is built holds
  built_holds : {fs : List ℕ} → Built fs → (g : ℕ) → g among fs → Holds rule_set heap values g
  built_holds Built.none g m = absurd (Memᴰ.not-nil m)
  built_holds (Built.more {f = f} called gr k n b) g m =
      ⊎_elim
      (λ e. rw e (holds_closed rule_set heap values f (record { called = called; ground = gr; from_known = λ h i. built_holds b h (k h i) })))
      (built_holds b g) (Memᴰ.cases_cons m)

  -- where one fact is needed, it is the newest
  needed_first : (root : ℕ) (fs : List ℕ) (b : Built fs) → root among fs → ((g : ℕ) → g among fs → (g among root ∷ []) ⊎ CalledIn b g) → line_of fs root ≡ length fs
  needed_first root [] b m used = absurd (Memᴰ.not-nil m)
  needed_first root (f ∷ fs) b m used = ⊎_elim same older (used f (Memᴰ.head refl))
    where
      same : f among root ∷ [] → line_of (f ∷ fs) root ≡ length (f ∷ fs)
      same i =
          let e : root ≡ f = ⊎_elim sym (λ j. absurd (Memᴰ.not-nil j)) (Memᴰ.cases_cons i) in
          ap (line_of (f ∷ fs)) e ∙ line_head f fs

      apart : Distinct (f ∷ fs) → f among fs → ⊥
      apart (Distinct.next n d) i = n i

      older : CalledIn b f → line_of (f ∷ fs) root ≡ length (f ∷ fs)
      older c = absurd (apart (built_distinct b) (called_older b f c))

module _ (rule_set : RuleSet) (heap : Heap) (p : ℕ) (query : List ℕ) (part : ℕ) where
  abbrev root : ℕ
  root = fact (domain rule_set heap query) p query part

  abbrev BuiltHere : List ℕ → Type 0
  BuiltHere = Built rule_set heap (domain rule_set heap query)

  trimmed_of : (table : List ℕ) → Complete rule_set heap (domain rule_set heap query) table → length table ≤ 65535
      → (fs : List ℕ) (b : BuiltHere fs) → root among fs
      → ((g : ℕ) → g among fs → (g among root ∷ []) ⊎ CalledIn rule_set heap (domain rule_set heap query) b g)
      → Trimmed rule_set heap (domain rule_set heap query) p query part (words_of rule_set heap (domain rule_set heap query) b)
  trimmed_of table complete small fs b m used =
      let values : List ℕ = domain rule_set heap query in
      let words : List ℕ = words_of rule_set heap values b in
      let first : line_of rule_set heap values fs root ≡ length fs = needed_first rule_set heap values root fs b m used in
      let there : (g : ℕ) → g among fs → fact_at words (line_of rule_set heap values fs g) ≡ g = fact_there rule_set heap values words b (λ i h. refl) in
      let facts : (k : ℕ) → 1 ≤ k → k ≤ length fs → (g : ℕ) × (g among fs) × (line_of rule_set heap values fs g ≡ k) =
      line_fact rule_set heap values fs (built_distinct rule_set heap values b) in
      let short : length fs ≤ length table =
      holding_counted rule_set heap values complete fs (built_distinct rule_set heap values b) (built_holds rule_set heap values b) in
      record {
        taken = record {
          count = length fs;
          some = omega (arith, (line_bounds rule_set heap values fs root m).0, first);
          most = omega arith;
          whole = words_length rule_set heap values b;
          calls = calls_of rule_set heap values b;
          each = line_taken rule_set heap values words b (λ i h. refl);
          last = ap (fact_at words) (sym first) ∙ there root m;
        };
        once = λ j k low less high e.
            let (g, i, q) = facts j low (omega arith) in
            let (h, l, r) = facts k (omega arith) high in
            let gj : fact_at words j ≡ g = ap (fact_at words) (sym q) ∙ there g i in
            let hk : fact_at words k ≡ h = ap (fact_at words) (sym r) ∙ there h l in
            omega (arith, sym q ∙ ap (line_of rule_set heap values fs) (sym gj ∙ e ∙ hk) ∙ r);
        used = λ k low less.
            let (g, i, q) = facts k low (omega arith) in
            ⊎_elim
            (λ c. let e : g ≡ root = ⊎_elim (λ z. z) (λ z. absurd (Memᴰ.not-nil z)) (Memᴰ.cases_cons c) in
            absurd (omega (arith, sym q ∙ ap (line_of rule_set heap values fs) e ∙ first)))
            (λ c. let r = called_line rule_set heap values b g c in (r.line, omega (arith, r.later), r.within, Memᴰ.cast (sym q) r.calls))
            (used g i);
      }

  -- Where the query fits the part and the table has at most 65,535 facts, there is a certificate of the engine's kind.
  pub trimmed_exists : Valid rule_set heap query → ByHand rule_set heap p query part
      → {r : ℕ} {table : List ℕ} → After rule_set heap (domain rule_set heap query) r table → Complete rule_set heap (domain rule_set heap query) table → length table ≤ 65535
      → (words : List ℕ) × Trimmed rule_set heap (domain rule_set heap query) p query part words
  trimmed_exists valid fits {r} {table} after complete small =
      let values : List ℕ = domain rule_set heap query in
      let h : Holds rule_set heap values root =
      table_holds rule_set heap values after root
      (completeness rule_set heap query valid p query part (query-good rule_set heap query) fits after complete) in
      let w = grow rule_set heap values h [] Built.none in
      let r = prune rule_set heap values w.built (root ∷ []) w.new in (
        words_of rule_set heap values r.built,
        trimmed_of table complete small r.facts r.built (r.has root (Memᴰ.head refl)) r.used,
      )
