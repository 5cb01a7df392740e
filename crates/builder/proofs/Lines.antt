-- Marked places with a ground each, numbered and written line by line, are a certificate of the engine's kind. A line's number is one more
-- than the count of marked places before it, so called lines are earlier, every line is some place's, and no fact stands twice.
use mathlib.Core.List.Memᴰ
use mathlib.Core.List.{List, [], ◌∷◌, ◌++◌, map}
use mathlib.Core.{Logic.◌≢◌, Logic.⊎_elim, Path.◌≡◌, Path.refl, Path.sym, Path.ap, Path.ap₂, Path.◌∙◌}
use Prim.Native.Nat.{ℕ, zero, suc, ◌+◌, ◌-◌, ◌*◌, ◌%◌, ◌≤◌, ◌<◌}
use native.Mathlib.{Omega.arith, Decide.dec_lt, Nat.eq-or-lt_of_le}
use lib.ListN.{length, get_or, length-map}
use Rattle.semantics.specs.{Lists.◌among◌, Lists.digits, Lists.zeros, RuleSet.RuleSet, RuleSet.WellFormed, Heap.Heap, Fact.fact}
use Rattle.semantics.proofs.{FixedPoint.same_ground, Taking.called_length}
use Rattle.semantics.specs.{Certificate.fact_at, Certificate.positions_at, Certificate.rule_at, Certificate.LineHolds, Contract.padded}
use Rattle.words.proofs.Digits.{digits-padded}
use Rattle.table.specs.Layered.{code_at, round_at}
use Rattle.ground.specs.Grounded.{called_in, called_at, Grounded}
use Rattle.builder.specs.Space.{mark_at, positions_in, names_in, Earlier, Planned, count, line_of, renamed}
use Rattle.builder.specs.Plan.{Certifies}
use Rattle.builder.proofs.Counting.{count_marked, count_rises, count_below, count_apart, count_same, place_of, Numbered, numbered}
use Rattle.ground.proofs.Packed.{called_read, positive, positive_padded}

-- The words have, for each marked place, a line with its fact, its positions and its called lines.
pub record Described (rule_set : RuleSet) (heap : Heap) (domain table : List ℕ) (at : ℕ) (space words : List ℕ) : Type 0 where
  pub planned : Planned at space
  pub formed : WellFormed rule_set
  pub few : at < 65535
  pub differ : (i j : ℕ) → i < j → j ≤ at → code_at table i ≢ code_at table j
  pub grounds : (i : ℕ) → i ≤ at → mark_at space i ≢ 0 → Grounded rule_set heap domain table (Earlier table i) (code_at table i) (positions_in space i) (names_in space i)
  pub long : length words ≡ 3 * count space (suc at)
  pub facts : (i : ℕ) → i ≤ at → mark_at space i ≢ 0 → fact_at words (suc (count space i)) ≡ code_at table i
  pub positions : (i : ℕ) → i ≤ at → mark_at space i ≢ 0 → positions_at words (suc (count space i)) ≡ positions_in space i
  pub names : (i : ℕ) → i ≤ at → mark_at space i ≢ 0 → rule_at words (suc (count space i)) ≡ renamed space (names_in space i)

-- where a member stands, with anything behind the list
member_at : {x : ℕ} {xs : List ℕ} → x among xs → (ys : List ℕ) → (k : ℕ) × (k < length xs) × (get_or (xs ++ ys) k 0 ≡ x)
member_at (Memᴰ.head e) ys = (0, omega arith, sym e)
member_at (Memᴰ.tail m) ys = let (k, h, e) = member_at m ys in (suc k, omega arith, e)

-- and which member stands there
place-member : (x : ℕ) (xs : List ℕ) (n k : ℕ) → get_or (map suc xs ++ zeros n) k 0 ≡ suc x → x among xs
place-member x [] zero k e = absurd (omega arith)
place-member x [] (suc n) zero e = absurd (omega arith)
place-member x [] (suc n) (suc k) e = place-member x [] n k e
place-member x (y ∷ xs) n zero e = let q : x ≡ y = omega arith in Memᴰ.head q
place-member x (y ∷ xs) n (suc k) e = Memᴰ.tail (place-member x xs n k e)

-- the line of a place
abbrev line_for : List ℕ → ℕ → ℕ
line_for space j = suc (count space j)

lines_for : (space places : List ℕ) (n : ℕ) → map (line_of space) (map suc places ++ zeros n) ≡ map (line_for space) places ++ zeros n
unfolding line_of
lines_for space [] zero = refl
lines_for space [] (suc n) = ap (λ (ys : List ℕ). 0 ∷ ys) (lines_for space [] n)
lines_for space (j ∷ js) n = ap (λ (ys : List ℕ). suc (count space j) ∷ ys) (lines_for space js n)

module _ (rule_set : RuleSet) (heap : Heap) (domain table : List ℕ) (at : ℕ) (space words : List ℕ) (d : Described rule_set heap domain table at space words) where
  module _ (i : ℕ) (upto : i ≤ at) (marked : mark_at space i ≢ 0) (g : Grounded rule_set heap domain table (Earlier table i) (code_at table i) (positions_in space i) (names_in space i)) where
    places_few : length g.places ≤ 3
    places_few =
        omega (arith, length-map g.places (code_at table), called_length g.ground.calls, (d.formed.each g.ground.rule g.ground.applies.listed).calls_few)

    number_few : g.number < 256
    number_few = omega (arith, g.in_rule_set, d.formed.rules_few)

    place_small : (x : ℕ) → x among map suc g.places → x < 65536
    place_small x m = let (j, k, e) = Memᴰ.of_map suc g.places m in omega (arith, (g.allowed j k).before, d.few)

    -- the called places of the line
    called_places : called_in (names_in space i) ≡ map suc g.places ++ zeros (3 - length (map suc g.places))
    called_places =
        ap called_in g.named ∙ called_read g.number (map suc g.places) number_few (omega (arith, length-map g.places suc, places_few)) place_small

    -- and they are marked
    place_marked : (j : ℕ) → j among g.places → mark_at space j ≢ 0
    place_marked j m =
        let (k, h, e) = member_at (Memᴰ.map suc m) (zeros (3 - length (map suc g.places))) in
        let is : called_at (names_in space i) k ≡ suc j = ap (λ (xs : List ℕ). get_or xs k 0) called_places ∙ e in
        ⊎_elim (λ (z : called_at (names_in space i) k ≡ 0). absurd (omega arith))
        (λ r. let q : r.0 ≡ j = omega (arith, r.3) in rw q at r.2)
        (d.planned.calls i upto marked k (omega (arith, length-map g.places suc, places_few)))

    line_earlier : (l : ℕ) → l among map (line_for space) g.places → (1 ≤ l) × (l < line_for space i)
    line_earlier l m =
        let (j, k, e) = Memᴰ.of_map (line_for space) g.places m in
        (omega arith, omega (arith, count_apart space j i (g.allowed j k).before (place_marked j k)))

    line_small : (l : ℕ) → l among map (line_for space) g.places → l < 65536
    line_small l m = let (low, high) = line_earlier l m in omega (arith, count_below space i, d.few)

    named_lines : rule_at words (line_for space i) ≡ g.number + 256 * digits 65536 (map (line_for space) g.places)
    named_lines =
        let packed : digits 65536 (map (line_of space) (called_in (names_in space i))) ≡ digits 65536 (map (line_for space) g.places) =
        ap (λ (xs : List ℕ). digits 65536 (map (line_of space) xs)) called_places
        ∙ ap (digits 65536) (lines_for space g.places (3 - length (map suc g.places))) ∙ digits-padded 65536 (map (line_for space) g.places) (3 - length (map suc g.places)) in
        let rule : names_in space i % 256 ≡ g.number = omega (arith, g.named, number_few) in
        d.names i upto marked ∙ ap₂ (λ (x y : ℕ). x + 256 * y) rule packed

    called_lines : positive (called_in (rule_at words (line_for space i))) ≡ map (line_for space) g.places
    called_lines =
        ap (λ (w : ℕ). positive (called_in w)) named_lines
        ∙ ap positive (called_read g.number (map (line_for space) g.places) number_few (omega (arith, length-map g.places (line_for space), places_few)) line_small)
        ∙ positive_padded (map (line_for space) g.places) (3 - length (map (line_for space) g.places)) (λ l m. (line_earlier l m).0)

    facts_back : (places : List ℕ) → ((j : ℕ) → j among places → j among g.places) → map (fact_at words) (map (line_for space) places) ≡ map (code_at table) places
    facts_back [] h = refl
    facts_back (j ∷ js) h =
        let m : j among g.places = h j (Memᴰ.head refl) in
        ap₂ (λ (x : ℕ) (xs : List ℕ). x ∷ xs) (d.facts j (omega (arith, (g.allowed j m).before)) (place_marked j m)) (facts_back js (λ x k. h x (Memᴰ.tail k)))

    line_holds : LineHolds rule_set heap domain words (line_for space i) (map (line_for space) g.places)
    line_holds = record {
      earlier = line_earlier;
      ground = same_ground rule_set heap domain (sym (facts_back g.places (λ j m. m))) (d.facts i upto marked) g.ground;
      written = record {
        number = g.number;
        in_rule_set = g.in_rule_set;
        is_rule = g.is_rule;
        positions = d.positions i upto marked ∙ g.written;
        names = named_lines;
      };
    }

  -- the place of a line
  abbrev place_for : ℕ → ℕ
  place_for k = place_of space (suc at) (k - 1)

  place_of_lem : (k : ℕ) → 1 ≤ k → k ≤ count space (suc at) → Numbered space (suc at) (k - 1) (place_for k)
  place_of_lem k low high = numbered space (suc at) (k - 1) (omega arith)

  line_taken : (k : ℕ) → 1 ≤ k → k ≤ count space (suc at) → LineHolds rule_set heap domain words k (positive (called_in (rule_at words k)))
  line_taken k low high =
      let r = place_of_lem k low high in
      let i : ℕ = place_for k in
      let upto : i ≤ at = omega (arith, r.within) in
      let g = d.grounds i upto r.marked in
      let e : line_for space i ≡ k = omega (arith, r.is) in
      rw (← e) (rw (called_lines i upto r.marked g) (line_holds i upto r.marked g))

  -- the fact of a line
  line_fact : (k : ℕ) → 1 ≤ k → k ≤ count space (suc at) → fact_at words k ≡ code_at table (place_for k)
  line_fact k low high =
      let r = place_of_lem k low high in
      let e : line_for space (place_for k) ≡ k = omega (arith, r.is) in
      ap (fact_at words) (sym e) ∙ d.facts (place_for k) (omega (arith, r.within)) r.marked

  places_rise : (j k : ℕ) → 1 ≤ j → j < k → k ≤ count space (suc at) → place_for j < place_for k
  places_rise j k low less high = step (dec_lt (place_for j) (place_for k))
    where
      step : Dec (place_for j < place_for k) → place_for j < place_for k
      step (yes l) = l
      step (no z) = absurd (omega (arith, count_rises space (place_for k) (place_for j) (omega arith), (place_of_lem j low (omega arith)).is, (place_of_lem k (omega arith) high).is))

  -- no fact stands twice
  facts_once : (j k : ℕ) → 1 ≤ j → j < k → k ≤ count space (suc at) → fact_at words j ≢ fact_at words k
  facts_once j k low less high e =
      d.differ (place_for j) (place_for k) (places_rise j k low less high) (omega (arith, (place_of_lem k (omega arith) high).within))
      (sym (line_fact j low (omega arith)) ∙ e ∙ line_fact k (omega arith) high)

  -- a line before the last is called from further down
  record CalledLater (k : ℕ) : Type 0 where
    pub line : ℕ
    pub later : k < line
    pub within : line ≤ count space (suc at)
    pub calls : k among positive (called_in (rule_at words line))

  called_later : (i : ℕ) → i < at → mark_at space i ≢ 0 → CalledLater (line_for space i)
  called_later i l z = step (d.planned.used i l z)
    where
      step : (j : ℕ) × (i < j) × (j ≤ at) × (mark_at space j ≢ 0) × (k : ℕ) × (k < 3) × (called_at (names_in space j) k ≡ suc i) → CalledLater (line_for space i)
      step (j, less, upto, marked, k, few, e) =
          let g = d.grounds j upto marked in
          let in_places : i among g.places = place-member i g.places (3 - length (map suc g.places)) k (ap (λ (xs : List ℕ). get_or xs k 0) (sym (called_places j upto marked g)) ∙ e) in
          record {
            line = line_for space j;
            later = omega (arith, count_apart space i j less z);
            within = omega (arith, count_apart space j (suc at) (omega arith) marked);
            calls = rw (called_lines j upto marked g) (Memᴰ.map (line_for space) in_places);
          }

  line_earlier_round : (k : ℕ) → 1 ≤ k → k ≤ count space (suc at) → (l : ℕ) → l among positive (called_in (rule_at words k)) → round_at table (place_for l) < round_at table (place_for k)
  line_earlier_round k low high l m =
      let r = place_of_lem k low high in
      let i : ℕ = place_for k in
      let upto : i ≤ at = omega (arith, r.within) in
      let g = d.grounds i upto r.marked in
      let is_line : line_for space i ≡ k = omega (arith, r.is) in
      let m' : l among map (line_for space) g.places = rw (← is_line, called_lines i upto r.marked g) at m in
      let (j, h, q) = Memᴰ.of_map (line_for space) g.places m' in
      let full : mark_at space j ≢ 0 = place_marked i upto r.marked g j h in
      let s = place_of_lem l (omega arith) (omega (arith, (g.allowed j h).before, count_apart space j (suc at) (omega (arith, (g.allowed j h).before)) full)) in
      let same : place_for l ≡ j = count_same space (place_for l) j s.marked full (s.is ∙ omega arith) in
      rw same (g.allowed j h).round

  -- The certificate.
  pub certifies : (p : ℕ) (values : List ℕ) (part : ℕ) → code_at table at ≡ fact domain p values part → (size lines : ℕ) (final : List ℕ) → final ≡ padded size words
      → lines ≡ count space (suc at) → Certifies rule_set heap domain p values part table at size final lines
  certifies p values part is size lines final is_space counted =
      let root : mark_at space at ≢ 0 = d.planned.root in
      let last : count space (suc at) ≡ line_for space at = count_marked space at root in
      record {
        words = words;
        trimmed = record {
          taken = record {
            count = count space (suc at);
            some = omega arith;
            most = omega (arith, count_below space (suc at), d.few);
            whole = d.long;
            calls = λ k. positive (called_in (rule_at words k));
            each = line_taken;
            last = ap (fact_at words) last ∙ d.facts at (omega arith) root ∙ is;
          };
          once = facts_once;
          used = λ k low less.
              let r = place_of_lem k low (omega arith) in
              let e : line_for space (place_for k) ≡ k = omega (arith, r.is) in
              let before : place_for k < at = not_last (place_for k) (omega (arith, r.within)) (omega (arith, r.is)) in
              let c = called_later (place_for k) before r.marked in
              (c.line, omega (arith, c.later), c.within, Memᴰ.cast (sym e) c.calls);
        };
        counted = counted;
        from_table = record {
          place = place_for;
          facts = λ k low high. (omega (arith, (place_of_lem k low high).within), line_fact k low high);
          ordered = places_rise;
          earlier = line_earlier_round;
        };
        is_space = is_space;
      }
    where
      not_last : (i : ℕ) → i ≤ at → suc (count space i) < count space (suc at) → i < at
      not_last i h l = ⊎_elim (λ (e : i ≡ at). absurd (omega (arith, count_marked space at d.planned.root, ap (count space) e))) (λ (k : i < at). k) (eq-or-lt_of_le h)
