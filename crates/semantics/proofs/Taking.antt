-- The test takes words exactly if the conditions for lines hold.
use mathlib.Core.{Bool.true, Bool.false≢true, Path.◌≡◌, Path.refl, Path.sym, Path.ap, Path.ap₂, Path.◌∙◌, Logic.◌↔◌, Logic.by_cases}
use mathlib.Core.List.Memᴰ
use mathlib.Core.List.{List, [], ◌∷◌, ◌++◌, map}
use Prim.Native.Nat.{ℕ, zero, suc, ◌+◌, ◌*◌, ◌/◌, ◌%◌, ◌^◌, ◌≤◌, ◌<◌}
use native.Mathlib.{Omega.arith, Decide.ℕ_discrete}
use lib.ListN.{length, get_or, take, drop, length-append, length-map, length-take, length-drop, take-append-drop}
use lib.Dec.{eqb, leb, ltb}
use borrow.Author.Tests.{eq-eqb, eqb-true, leb-true, ltb-true, lt-ltb, le-leb}
use Rattle.semantics.specs.Lists.{◌among◌, Ascending, digits, digits_of}
use Rattle.semantics.specs.{RuleSet.Call, RuleSet.Rule, RuleSet.RuleSet, RuleSet.arity, RuleSet.variables, RuleSet.blank_rule, Heap.Heap, Tree.values_of}
use Rattle.semantics.specs.{Fact.position, Fact.fact, Fact.part_of, Rounds.Called, Rounds.Ground}
use Rattle.semantics.specs.Certificate.{fact_at, positions_at, rule_at, LineHolds, Certificate}
use Rattle.semantics.proofs.Digits.{digits_of-length, digits_back}
use Rattle.semantics.proofs.Coding.{get_d_in, position_below, values_back, positions_back}
use Rattle.semantics.proofs.{DomainFacts.member_true, DomainFacts.member_out, Evaluator.meets_all, Evaluator.takings, Evaluator.joined}
use Rattle.semantics.proofs.Evaluation.{every_in, every_out, both_in, both_out, flat_in, flat_out, meets_all_in, meets_all_out, takings_in, takings_out, joined_in, joined_out}
use Rattle.semantics.proofs.CertificateTest.{rule_of, positions_of, values_at, calls_of, calls_test, conclusions, earlier_test, position_test, line_test, takes_line, takes_lines, takes}

pub get_d_member : (rules : List Rule) (i : ℕ) → i < length rules → get_or rules i blank_rule among rules
get_d_member [] i h = absurd (omega arith)
get_d_member (r ∷ rules) zero h = Memᴰ.head refl
get_d_member (r ∷ rules) (suc i) h = Memᴰ.tail (get_d_member rules i (omega arith))

take_front : (xs ys : List ℕ) (n : ℕ) → length xs ≡ n → take n (xs ++ ys) ≡ xs
take_front [] ys n e = ap (λ (k : ℕ). take k ys) (sym e)
take_front (x ∷ xs) ys zero e = absurd (omega arith)
take_front (x ∷ xs) ys (suc n) e = ap (λ (l : List ℕ). x ∷ l) (take_front xs ys n (omega arith))

drop_front : (xs ys : List ℕ) (n : ℕ) → length xs ≡ n → drop n (xs ++ ys) ≡ ys
drop_front [] ys n e = ap (λ (k : ℕ). drop k ys) (sym e)
drop_front (x ∷ xs) ys zero e = absurd (omega arith)
drop_front (x ∷ xs) ys (suc n) e = drop_front xs ys n (omega arith)

pub called_length : {domain σ : List ℕ} {calls : List Call} {fs : List ℕ} → Called domain σ calls fs → length fs ≡ length calls
called_length Called.none = refl
called_length (Called.next e rest) = ap suc (called_length rest)

module _ (rule_set : RuleSet) (heap : Heap) (domain words : List ℕ) where
  called_in_lem : {σ : List ℕ} {calls : List Call} {fs : List ℕ} → Called domain σ calls fs → calls_test rule_set heap domain words σ calls fs ≡ true
  unfolding calls_test
  called_in_lem Called.none = refl
  called_in_lem {σ} (Called.next {call = c} {calls = cs} {f = f} {facts = fs} e rest) =
      both_in (eqb f (fact domain c.predicate (values_of σ c.arguments) (part_of f))) (calls_test rule_set heap domain words σ cs fs) (eq-eqb f (fact domain c.predicate (values_of σ c.arguments) (part_of f)) e) (called_in_lem rest)

  called_out : (σ : List ℕ) (calls : List Call) (fs : List ℕ) → calls_test rule_set heap domain words σ calls fs ≡ true → Called domain σ calls fs
  unfolding calls_test
  called_out σ [] [] e = Called.none
  called_out σ [] (f ∷ fs) e = absurd (false≢true e)
  called_out σ (c ∷ cs) [] e = absurd (false≢true e)
  called_out σ (c ∷ cs) (f ∷ fs) e =
      let (p, q) = both_out (eqb f (fact domain c.predicate (values_of σ c.arguments) (part_of f))) (calls_test rule_set heap domain words σ cs fs) e in
      Called.next (eqb-true f (fact domain c.predicate (values_of σ c.arguments) (part_of f)) p) (called_out σ cs fs q)

  -- a line that passes the test is taken
  record Passes (k number : ℕ) (rule : Rule) (positions arguments bound lines : List ℕ) : Type 0 where
    pub in_rule_set : number < length rule_set.rules
    pub in_word : positions_at words k ≡ digits 256 positions
    pub domain_positions : (p : ℕ) → p among positions → p < length domain
    pub names : rule_at words k ≡ number + 256 * digits 65536 lines
    pub earlier : (l : ℕ) → l among lines → (1 ≤ l) × (l < k)
    pub meets : meets_all (arguments ++ bound) rule.pures ≡ true
    pub calls : Called domain (arguments ++ bound) rule.calls (map (fact_at words) lines)
    pub conclusion : fact_at words k among conclusions rule_set heap domain words rule arguments bound (map (fact_at words) lines)

  passes_out : (k number : ℕ) (rule : Rule) (positions arguments bound lines : List ℕ) → line_test rule_set heap domain words k number rule positions arguments bound lines ≡ true
      → Passes k number rule positions arguments bound lines
  unfolding line_test earlier_test position_test
  passes_out k number rule positions arguments bound lines e =
      let (t₁, e₁) = both_out _ _ e in
      let (t₂, e₂) = both_out _ _ e₁ in
      let (t₃, e₃) = both_out _ _ e₂ in
      let (t₄, e₄) = both_out _ _ e₃ in
      let (t₅, e₅) = both_out _ _ e₄ in
      let (t₆, e₆) = both_out _ _ e₅ in
      let (t₇, t₈) = both_out _ _ e₆ in
      record {
        in_rule_set = ltb-true number (length rule_set.rules) t₁;
        in_word = eqb-true (positions_at words k) (digits 256 positions) t₂;
        domain_positions = λ p m. ltb-true p (length domain) (every_out (position_test rule_set heap domain words) positions t₃ p m);
        names = eqb-true (rule_at words k) (number + 256 * digits 65536 lines) t₄;
        earlier = λ l m. let (a, b) = both_out (leb 1 l) (ltb l k) (every_out (earlier_test rule_set heap domain words k) lines t₅ l m) in (leb-true 1 l a, ltb-true l k b);
        meets = t₆;
        calls = called_out (arguments ++ bound) rule.calls (map (fact_at words) lines) t₇;
        conclusion = member_out (fact_at words k) (conclusions rule_set heap domain words rule arguments bound (map (fact_at words) lines)) t₈;
      }

  passes_in : (k number : ℕ) (rule : Rule) (positions arguments bound lines : List ℕ) → Passes k number rule positions arguments bound lines
      → line_test rule_set heap domain words k number rule positions arguments bound lines ≡ true
  unfolding line_test earlier_test position_test
  passes_in k number rule positions arguments bound lines p =
      both_in _ _ (lt-ltb number (length rule_set.rules) p.in_rule_set)
      (both_in _ _ (eq-eqb (positions_at words k) (digits 256 positions) p.in_word)
      (both_in _ _ (every_in (position_test rule_set heap domain words) positions (λ q m. lt-ltb q (length domain) (p.domain_positions q m)))
      (both_in _ _ (eq-eqb (rule_at words k) (number + 256 * digits 65536 lines) p.names)
      (both_in _ _ (every_in (earlier_test rule_set heap domain words k) lines (λ l m. both_in (leb 1 l) (ltb l k) (le-leb 1 l (p.earlier l m).0) (lt-ltb l k (p.earlier l m).1)))
      (both_in _ _ p.meets
      (both_in _ _ (called_in_lem p.calls)
      (member_true (fact_at words k) (conclusions rule_set heap domain words rule arguments bound (map (fact_at words) lines)) p.conclusion)))))))

  -- a passed line is a ground instance of its rule
  module _ (asc : Ascending domain) where
    line_of : (k number : ℕ) (positions arguments bound lines : List ℕ)
        → arguments ++ bound ≡ map (λ (i : ℕ). get_or domain i 0) positions
        → length arguments ≡ arity rule_set (get_or rule_set.rules number blank_rule).head → length bound ≡ (get_or rule_set.rules number blank_rule).bound
        → Passes k number (get_or rule_set.rules number blank_rule) positions arguments bound lines → LineHolds rule_set heap domain words k lines
    unfolding conclusions
    line_of k number positions arguments bound lines e la lb p =
        let rule : Rule = get_or rule_set.rules number blank_rule in
        let called : List ℕ = map (fact_at words) lines in
        let (is, mi, m) = flat_out (λ (is : List ℕ). map (fact domain rule.head arguments) (joined (map (λ (i : ℕ). 2 ^ i) is ++ map part_of called))) (takings heap (arguments ++ bound) rule.points_to) p.conclusion in
        let (part, mp, q) = Memᴰ.of_map (fact domain rule.head arguments) (joined (map (λ (i : ℕ). 2 ^ i) is ++ map part_of called)) m in
        record {
          earlier = p.earlier;
          ground = record {
            rule = rule;
            arguments = arguments;
            bound = bound;
            indices = is;
            part = part;
            applies = record {
              listed = get_d_member rule_set.rules number p.in_rule_set;
              arguments_counted = la;
              bound_counted = lb;
              meets = meets_all_out (arguments ++ bound) rule.pures p.meets;
              takes = takings_out heap (arguments ++ bound) rule.points_to is mi;
            };
            keeps = λ v k. let (i, mi', h) = Memᴰ.of_map (λ (i : ℕ). get_or domain i 0) positions (rw e at k) in Memᴰ.cast (sym h) (get_d_in domain i (p.domain_positions i mi'));
            calls = p.calls;
            joins = joined_out (map (λ (i : ℕ). 2 ^ i) is ++ map part_of called) part mp;
            is_fact = sym q;
          };
          written = record {
            number = number;
            in_rule_set = p.in_rule_set;
            is_rule = refl;
            positions = p.in_word ∙ ap (digits 256) (sym (ap (map (position domain)) e ∙ positions_back domain asc positions p.domain_positions));
            names = p.names;
          };
        }

    pub line_out : (k : ℕ) → takes_line rule_set heap domain words k ≡ true → LineHolds rule_set heap domain words k (calls_of rule_set heap domain words k)
    unfolding takes_line
    line_out k e =
        let rule : Rule = rule_of rule_set heap domain words k in
        let n : ℕ = arity rule_set rule.head in
        let vs : List ℕ = values_at rule_set heap domain words k in
        let long : length vs ≡ n + rule.bound = length-map (positions_of rule_set heap domain words k) (λ (i : ℕ). get_or domain i 0) ∙ digits_of-length 256 (variables rule_set rule) (positions_at words k) in
        line_of k (rule_at words k % 256) (positions_of rule_set heap domain words k) (take n vs) (drop n vs) (calls_of rule_set heap domain words k)
        (take-append-drop n vs) (omega (arith, length-take n vs)) (omega (arith, length-drop n vs))
        (passes_out k (rule_at words k % 256) rule (positions_of rule_set heap domain words k) (take n vs) (drop n vs) (calls_of rule_set heap domain words k) e)

  -- and a line that is taken passes
  test_equal : (k n n' : ℕ) (r r' : Rule) (ps ps' as₁ as₂ bs bs' ls ls' : List ℕ) → n ≡ n' → r ≡ r' → ps ≡ ps' → as₁ ≡ as₂ → bs ≡ bs' → ls ≡ ls'
      → line_test rule_set heap domain words k n' r' ps' as₂ bs' ls' ≡ true → line_test rule_set heap domain words k n r ps as₁ bs ls ≡ true
  test_equal k n n' r r' ps ps' as₁ as₂ bs bs' ls ls' en er ep ea eb el h = rw (en, er, ep, ea, eb, el) h

  module _ (few : length rule_set.rules ≤ 256) (short : length domain ≤ 128) where
    conclusion_in : (lines : List ℕ) (f : ℕ) (g : Ground rule_set heap domain (map (fact_at words) lines) f) → f among conclusions rule_set heap domain words g.rule g.arguments g.bound (map (fact_at words) lines)
    unfolding conclusions
    conclusion_in lines f g =
        let called : List ℕ = map (fact_at words) lines in
        flat_in (λ (is : List ℕ). map (fact domain g.rule.head g.arguments) (joined (map (λ (i : ℕ). 2 ^ i) is ++ map part_of called))) (takings heap (g.arguments ++ g.bound) g.rule.points_to)
        g.indices (takings_in g.applies.takes)
        (Memᴰ.cast g.is_fact (Memᴰ.map (fact domain g.rule.head g.arguments) (joined_in g.joins)))

    pub line_in : (k : ℕ) (lines : List ℕ) → k ≤ 65536 → LineHolds rule_set heap domain words k lines
        → (takes_line rule_set heap domain words k ≡ true) × (lines ≡ calls_of rule_set heap domain words k)
    unfolding takes_line
    line_in k lines high t =
        let g = t.ground in
        let w = t.written in
        let a = g.applies in
        let vs : List ℕ = g.arguments ++ g.bound in
        let number : rule_at words k % 256 ≡ w.number = omega (arith, w.names, w.in_rule_set) in
        let high_part : rule_at words k / 256 ≡ digits 65536 lines = omega (arith, w.names, w.in_rule_set) in
        let rule : rule_of rule_set heap domain words k ≡ g.rule = ap (λ (i : ℕ). get_or rule_set.rules i blank_rule) number ∙ w.is_rule in
        let long : length vs ≡ variables rule_set g.rule = length-append g.arguments g.bound ∙ ap₂ (λ (x y : ℕ). x + y) a.arguments_counted a.bound_counted in
        let small : (p : ℕ) → p among map (position domain) vs → p < length domain = λ p m. let (v, mv, e) = Memᴰ.of_map (position domain) vs m in omega (arith, position_below domain v (g.keeps v mv)) in
        let positions : positions_of rule_set heap domain words k ≡ map (position domain) vs =
        ap₂ (λ (r : Rule) (x : ℕ). digits_of 256 (variables rule_set r) x) rule w.positions
        ∙ ap (λ (n : ℕ). digits_of 256 n (digits 256 (map (position domain) vs))) (sym (length-map vs (position domain) ∙ long))
        ∙ digits_back 256 (map (position domain) vs) (λ p m. omega (arith, small p m)) in
        let values : values_at rule_set heap domain words k ≡ vs = ap (map (λ (i : ℕ). get_or domain i 0)) positions ∙ values_back domain vs g.keeps in
        let calls : calls_of rule_set heap domain words k ≡ lines =
        ap₂ (λ (r : Rule) (x : ℕ). digits_of 65536 (length r.calls) x) rule high_part
        ∙ ap (λ (n : ℕ). digits_of 65536 n (digits 65536 lines)) (sym (called_length g.calls) ∙ length-map lines (fact_at words))
        ∙ digits_back 65536 lines (λ l m. omega (arith, (t.earlier l m).1)) in
        let counted : arity rule_set (rule_of rule_set heap domain words k).head ≡ length g.arguments = ap (λ (r : Rule). arity rule_set r.head) rule ∙ sym a.arguments_counted in (
          test_equal k (rule_at words k % 256) w.number (rule_of rule_set heap domain words k) g.rule (positions_of rule_set heap domain words k) (map (position domain) vs)
              (take (arity rule_set (rule_of rule_set heap domain words k).head) (values_at rule_set heap domain words k)) g.arguments
              (drop (arity rule_set (rule_of rule_set heap domain words k).head) (values_at rule_set heap domain words k)) g.bound
              (calls_of rule_set heap domain words k) lines
              number rule positions
              (ap₂ (λ (n : ℕ) (l : List ℕ). take n l) counted values ∙ take_front g.arguments g.bound (length g.arguments) refl)
              (ap₂ (λ (n : ℕ) (l : List ℕ). drop n l) counted values ∙ drop_front g.arguments g.bound (length g.arguments) refl)
              calls
              (passes_in k w.number g.rule (map (position domain) vs) g.arguments g.bound lines (record {
                in_rule_set = w.in_rule_set;
                in_word = w.positions;
                domain_positions = small;
                names = w.names;
                earlier = t.earlier;
                meets = meets_all_in vs g.rule.pures a.meets;
                calls = g.calls;
                conclusion = conclusion_in lines (fact_at words k) g;
              })),
          sym calls,
        )

  lines_out : Ascending domain → (n : ℕ) → takes_lines rule_set heap domain words n ≡ true → (k : ℕ) → 1 ≤ k → k ≤ n → LineHolds rule_set heap domain words k (calls_of rule_set heap domain words k)
  unfolding takes_lines
  lines_out asc zero e k low high = absurd (omega arith)
  lines_out asc (suc n) e k low high =
      let (p, q) = both_out (takes_line rule_set heap domain words (suc n)) (takes_lines rule_set heap domain words n) e in
      by_cases (ℕ_discrete k (suc n)) (λ h. rw h (line_out asc (suc n) p)) (λ h. lines_out asc n q k low (omega arith))

  lines_in : length rule_set.rules ≤ 256 → length domain ≤ 128 → (n : ℕ) (calls : ℕ → List ℕ) → n ≤ 65535 → ((k : ℕ) → 1 ≤ k → k ≤ n → LineHolds rule_set heap domain words k (calls k))
      → takes_lines rule_set heap domain words n ≡ true
  unfolding takes_lines
  lines_in few short zero calls high h = refl
  lines_in few short (suc n) calls high h =
      both_in (takes_line rule_set heap domain words (suc n)) (takes_lines rule_set heap domain words n)
      (line_in few short (suc n) (calls (suc n)) (omega arith) (h (suc n) (omega arith) (omega arith))).0
      (lines_in few short n calls (omega arith) (λ k low up. h k low (omega arith)))

  -- The test decides the conditions for lines.
  pub takes_exact : Ascending domain → length rule_set.rules ≤ 256 → length domain ≤ 128 → (p : ℕ) (vs : List ℕ) (part : ℕ)
      → (takes rule_set heap domain words p vs part ≡ true) ↔ Certificate rule_set heap domain p vs part words
  unfolding takes
  takes_exact asc few short p vs part = (to, from)
    where
      to : takes rule_set heap domain words p vs part ≡ true → Certificate rule_set heap domain p vs part words
      to e =
          let (t₁, e₁) = both_out _ _ e in
          let (t₂, e₂) = both_out _ _ e₁ in
          let (t₃, e₃) = both_out _ _ e₂ in
          let (t₄, t₅) = both_out _ _ e₃ in
          record {
            count = length words / 3;
            some = leb-true 1 (length words / 3) t₁;
            most = leb-true (length words / 3) 65535 t₂;
            whole = eqb-true (length words) (3 * (length words / 3)) t₃;
            calls = calls_of rule_set heap domain words;
            each = lines_out asc (length words / 3) t₄;
            last = eqb-true (fact_at words (length words / 3)) (fact domain p vs part) t₅;
          }

      from : Certificate rule_set heap domain p vs part words → takes rule_set heap domain words p vs part ≡ true
      from t =
          let e : length words / 3 ≡ t.count = omega (arith, t.whole) in
          rw (e, takes)
          (both_in _ _ (le-leb 1 t.count t.some)
          (both_in _ _ (le-leb t.count 65535 t.most)
          (both_in _ _ (eq-eqb (length words) (3 * t.count) t.whole)
          (both_in _ _ (lines_in few short t.count t.calls t.most t.each)
          (eq-eqb (fact_at words t.count) (fact domain p vs part) t.last)))))
