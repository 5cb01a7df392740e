-- Planning downwards from the query's place: the places passed that are marked have their lines, what they call is marked and before
-- them, and every marked place but the query's is called by one that was passed.
use mathlib.Core.{List.List, Logic.◌⊎◌, Logic.inl, Logic.inr, Logic.⊎_elim, Logic.◌≢◌, Path.◌≡◌, Path.refl, Path.sym, Path.ap, Path.◌∙◌}
use Prim.Native.Nat.{ℕ, zero, suc, ◌+◌, ◌*◌, ◌≤◌, ◌<◌}
use native.Mathlib.{Numerals.add-one, Omega.arith, Decide.ℕ_discrete, Nat.eq-or-lt_of_le}
use lib.{ListN.length, ListN.get_or, ListN.set, ListN.length-set, Seq.get_or-set_same, Seq.get_or-set_other}
use Rattle.ground.specs.Grounded.{called_at}
use Rattle.builder.specs.{Space.mark_at, Space.positions_in, Space.names_in, Steps.marking, Plan.GroundedAt, Plan.visiting, Plan.Visited, Plan.Plans}

-- The first k called places of a third word marked.
unfoldable pub marked_upto : List ℕ → ℕ → ℕ → List ℕ
marked_upto space names zero = space
marked_upto space names (suc k) = marking (marked_upto space names k) (called_at names k)

pub marked_none : (space : List ℕ) (names : ℕ) → space ≡ marked_upto space names 0
unfolding marked_upto
marked_none space names = refl

pub marked_more : (space : List ℕ) (names k : ℕ) {before after : List ℕ} → before ≡ marked_upto space names k → after ≡ marking before (called_at names k) → after ≡ marked_upto space names (k + 1)
unfolding marked_upto
marked_more space names k e q = rw add-one (q ∙ ap (λ (s : List ℕ). marking s (called_at names k)) e)

pub marked_three : (space : List ℕ) (i positions names : ℕ) → marked_upto (set (set space (3 * i + 1) positions) (3 * i + 2) names) names 3 ≡ visiting space i positions names
unfolding marked_upto
marked_three space i positions names = refl

pub written_long : (space : List ℕ) (i x y : ℕ) → length (set (set space (3 * i + 1) x) (3 * i + 2) y) ≡ length space
written_long space i x y = simp length-set

-- ---- what marks leave of the other words

module _ (space : List ℕ) where
  marking_long : (c : ℕ) → length (marking space c) ≡ length space
  marking_long zero = refl
  marking_long (suc j) = length-set space (3 * j) 1

  -- a word that is no mark
  marking_kept : (c q : ℕ) → ((m : ℕ) → q ≢ 3 * m) → get_or (marking space c) q 0 ≡ get_or space q 0
  marking_kept zero q z = refl
  marking_kept (suc i) q z = get_or-set_other space (3 * i) q 1 0 (z i)

  marking_here : (c j : ℕ) → c ≡ suc j → 3 * j < length space → mark_at (marking space c) j ≡ 1
  marking_here zero j e l = absurd (omega arith)
  marking_here (suc i) j e l =
      let q : 3 * i ≡ 3 * j = omega arith in
      ap (λ (p : ℕ). get_or (set space p 1) (3 * j) 0) q ∙ get_or-set_same space (3 * j) 1 0 l

  marking-other : (c j : ℕ) → c ≢ suc j → mark_at (marking space c) j ≡ mark_at space j
  marking-other zero j z = refl
  marking-other (suc i) j z = get_or-set_other space (3 * i) (3 * j) 1 0 (λ e. z (omega arith))

-- a place after a visit: as it was, or called
data After (space : List ℕ) (names : ℕ) (after : List ℕ) (j : ℕ) : Type 0 where
  same : mark_at after j ≡ mark_at space j → ((k : ℕ) → k < 3 → called_at names k ≢ suc j) → After space names after j
  called : (k : ℕ) → k < 3 → called_at names k ≡ suc j → mark_at after j ≡ 1 → After space names after j

module _ (space : List ℕ) (i positions names : ℕ) (inside : 3 * i + 3 ≤ length space) (within : (k : ℕ) → k < 3 → called_at names k ≤ i) where
  abbrev written : List ℕ
  written = set (set space (3 * i + 1) positions) (3 * i + 2) names

  visited_kept : (q : ℕ) → ((m : ℕ) → q ≢ 3 * m) → get_or (visiting space i positions names) q 0 ≡ get_or written q 0
  visited_kept q z =
      marking_kept (marking (marking written (called_at names 0)) (called_at names 1)) (called_at names 2) q z
      ∙ marking_kept (marking written (called_at names 0)) (called_at names 1) q z ∙ marking_kept written (called_at names 0) q z

  positions_here : positions_in (visiting space i positions names) i ≡ positions
  positions_here =
      visited_kept (3 * i + 1) (λ m e. omega arith) ∙ get_or-set_other (set space (3 * i + 1) positions) (3 * i + 2) (3 * i + 1) names 0 (λ e. omega arith) ∙ get_or-set_same space (3 * i + 1) positions 0 (omega arith)

  positions_there : (j : ℕ) → j ≢ i → positions_in (visiting space i positions names) j ≡ positions_in space j
  positions_there j z = visited_kept (3 * j + 1) (λ m e. omega arith) ∙ get_or-set_other (set space (3 * i + 1) positions) (3 * i + 2) (3 * j + 1) names 0 (λ e. omega arith) ∙ get_or-set_other space (3 * i + 1) (3 * j + 1) positions 0 (λ e. z (omega arith))

  names_here : names_in (visiting space i positions names) i ≡ names
  names_here = visited_kept (3 * i + 2) (λ m e. omega arith) ∙ get_or-set_same (set space (3 * i + 1) positions) (3 * i + 2) names 0 (simp length-set (omega arith))

  names_there : (j : ℕ) → j ≢ i → names_in (visiting space i positions names) j ≡ names_in space j
  names_there j z = visited_kept (3 * j + 2) (λ m e. omega arith) ∙ get_or-set_other (set space (3 * i + 1) positions) (3 * i + 2) (3 * j + 2) names 0 (λ e. z (omega arith)) ∙ get_or-set_other space (3 * i + 1) (3 * j + 2) positions 0 (λ e. omega arith)

  visited_mark : (j : ℕ) → After space names (visiting space i positions names) j
  visited_mark j = step (ℕ_discrete (called_at names 0) (suc j)) (ℕ_discrete (called_at names 1) (suc j)) (ℕ_discrete (called_at names 2) (suc j))
    where
      one : List ℕ
      one = marking written (called_at names 0)

      two : List ℕ
      two = marking one (called_at names 1)

      one_long : length one ≡ length space
      one_long = marking_long written (called_at names 0) ∙ written_long space i positions names

      two_long : length two ≡ length space
      two_long = marking_long one (called_at names 1) ∙ one_long

      room : (k : ℕ) → k < 3 → called_at names k ≡ suc j → 3 * j < length space
      room k l e = omega (arith, within k l)

      step : Dec (called_at names 0 ≡ suc j) → Dec (called_at names 1 ≡ suc j) → Dec (called_at names 2 ≡ suc j) → After space names (visiting space i positions names) j
      step a b (yes e) = After.called 2 (omega arith) e (marking_here two (called_at names 2) j e (omega (arith, two_long, room 2 (omega arith) e)))
      step a (yes e) (no z) = After.called 1 (omega arith) e (marking-other two (called_at names 2) j z ∙ marking_here one (called_at names 1) j e (omega (arith, one_long, room 1 (omega arith) e)))
      step (yes e) (no y) (no z) = After.called 0 (omega arith) e (marking-other two (called_at names 2) j z ∙ marking-other one (called_at names 1) j y
          ∙ marking_here written (called_at names 0) j e (omega (arith, written_long space i positions names, room 0 (omega arith) e)))
      step (no x) (no y) (no z) = After.same
          (marking-other two (called_at names 2) j z ∙ marking-other one (called_at names 1) j y ∙ marking-other written (called_at names 0) j x
          ∙ get_or-set_other (set space (3 * i + 1) positions) (3 * i + 2) (3 * j) names 0 (λ e. omega arith) ∙ get_or-set_other space (3 * i + 1) (3 * j) positions 0 (λ e. omega arith))
          none
        where
          none : (k : ℕ) → k < 3 → called_at names k ≢ suc j
          none zero l = x
          none (suc zero) l = y
          none (suc (suc zero)) l = z
          none (suc (suc (suc k))) l = absurd (omega arith)

  -- what was marked stays marked, and what is called is marked
  pub visited_marked : (j : ℕ) → mark_at space j ≢ 0 → mark_at (visiting space i positions names) j ≢ 0
  visited_marked j z = step (visited_mark j)
    where
      step : After space names (visiting space i positions names) j → mark_at (visiting space i positions names) j ≢ 0
      step (After.same e n) q = z (sym e ∙ q)
      step (After.called k l c e) q = omega arith

  pub visited_called : (k j : ℕ) → k < 3 → called_at names k ≡ suc j → mark_at (visiting space i positions names) j ≢ 0
  visited_called k j l c = step (visited_mark j)
    where
      step : After space names (visiting space i positions names) j → mark_at (visiting space i positions names) j ≢ 0
      step (After.same e n) q = n k l c
      step (After.called h b d e) q = omega arith

  -- a marked place was marked, or is called
  pub visited_was : (j : ℕ) → mark_at (visiting space i positions names) j ≢ 0 → (mark_at space j ≢ 0) ⊎ ((k : ℕ) × (k < 3) × (called_at names k ≡ suc j))
  visited_was j z = step (visited_mark j)
    where
      step : After space names (visiting space i positions names) j → (mark_at space j ≢ 0) ⊎ ((k : ℕ) × (k < 3) × (called_at names k ≡ suc j))
      step (After.same e n) = inl (λ q. z (e ∙ q))
      step (After.called k l c e) = inr (k, l, c)

-- ---- the places from i on have their lines

pub record PlannedFrom (rules records : List ℕ) (n : ℕ) (table : List ℕ) (at i : ℕ) (space : List ℕ) : Type 0 where
  pub upto : i ≤ suc at
  pub root : mark_at space at ≢ 0
  pub calls : (j : ℕ) → i ≤ j → j ≤ at → mark_at space j ≢ 0 → (k : ℕ) → k < 3
      → (called_at (names_in space j) k ≡ 0) ⊎ ((m : ℕ) × (m < j) × (mark_at space m ≢ 0) × (called_at (names_in space j) k ≡ suc m))
  pub used : (j : ℕ) → j < at → mark_at space j ≢ 0
      → (m : ℕ) × (j < m) × (m ≤ at) × (mark_at space m ≢ 0) × (k : ℕ) × (k < 3) × (called_at (names_in space m) k ≡ suc j) × (i ≤ m)
  pub grounds : (j : ℕ) → i ≤ j → j ≤ at → mark_at space j ≢ 0 → GroundedAt rules records n table j (positions_in space j) (names_in space j)

module _ {rules records : List ℕ} {n : ℕ} {table : List ℕ} {at : ℕ} where
  pub planned_all : {space after : List ℕ} → length after ≡ length space → PlannedFrom rules records n table at 0 after → Plans rules records n table at space after
  planned_all l p = record {
    long = l;
    planned = record {
      root = p.root;
      calls = λ i h. p.calls i (omega arith) h;
      used = λ i h z. let (m, a, b, c, k, d, e, f) = p.used i h z in (m, a, b, c, k, d, e);
    };
    grounds = λ i h. p.grounds i (omega arith) h;
  }

  module _ (i : ℕ) (space : List ℕ) (upto : i ≤ at) (p : PlannedFrom rules records n table at (suc i) space) where
    pub planned_skip : mark_at space i ≡ 0 → PlannedFrom rules records n table at i space
    planned_skip z = record {
      upto = omega arith;
      root = p.root;
      calls = λ j h k m. ⊎_elim (λ (e : i ≡ j). absurd (m (ap (mark_at space) (sym e) ∙ z))) (λ (l : i < j). p.calls j l k m) (eq-or-lt_of_le h);
      used = λ j h m. let (a, b, c, d, k, e, f, g) = p.used j h m in (a, b, c, d, k, e, f, omega arith);
      grounds = λ j h k m. ⊎_elim (λ (e : i ≡ j). absurd (m (ap (mark_at space) (sym e) ∙ z))) (λ (l : i < j). p.grounds j l k m) (eq-or-lt_of_le h);
    }

    module _ (after : List ℕ) (inside : 3 * i + 3 ≤ length space) (v : Visited rules records n table i space after) where
      before_marked : (j : ℕ) → i < j → mark_at after j ≢ 0 → mark_at space j ≢ 0
      before_marked j l m =
          ⊎_elim (λ q. q) (λ w. absurd (omega (arith, v.within w.0 w.1, w.2)))
          (visited_was space i v.positions v.names inside v.within j (rw v.is_space at m))

      still_marked : (j : ℕ) → mark_at space j ≢ 0 → mark_at after j ≢ 0
      still_marked j m = rw v.is_space (visited_marked space i v.positions v.names inside v.within j m)

      names_kept : (j : ℕ) → i < j → names_in after j ≡ names_in space j
      names_kept j l = ap (λ (s : List ℕ). names_in s j) v.is_space ∙ names_there space i v.positions v.names inside v.within j (λ e. omega arith)

      names_now : names_in after i ≡ v.names
      names_now = ap (λ (s : List ℕ). names_in s i) v.is_space ∙ names_here space i v.positions v.names inside v.within

      positions_kept : (j : ℕ) → i < j → positions_in after j ≡ positions_in space j
      positions_kept j l = ap (λ (s : List ℕ). positions_in s j) v.is_space ∙ positions_there space i v.positions v.names inside v.within j (λ e. omega arith)

      positions_now : positions_in after i ≡ v.positions
      positions_now = ap (λ (s : List ℕ). positions_in s i) v.is_space ∙ positions_here space i v.positions v.names inside v.within

      -- what place i calls
      calls_here : (k : ℕ) → k < 3 → (called_at v.names k ≡ 0) ⊎ ((m : ℕ) × (m < i) × (mark_at after m ≢ 0) × (called_at v.names k ≡ suc m))
      calls_here k l = step (called_at v.names k) refl
        where
          step : (c : ℕ) → called_at v.names k ≡ c → (called_at v.names k ≡ 0) ⊎ ((m : ℕ) × (m < i) × (mark_at after m ≢ 0) × (called_at v.names k ≡ suc m))
          step zero e = inl e
          step (suc m) e = inr (m, omega (arith, v.within k l), rw v.is_space (visited_called space i v.positions v.names inside v.within k m l e), e)

      calls_there : (j k : ℕ) → i < j → j ≤ at → mark_at after j ≢ 0 → k < 3
          → (called_at (names_in after j) k ≡ 0) ⊎ ((m : ℕ) × (m < j) × (mark_at after m ≢ 0) × (called_at (names_in after j) k ≡ suc m))
      calls_there j k l h m b =
          ⊎_elim (λ (e : called_at (names_in space j) k ≡ 0). inl (ap (λ (w : ℕ). called_at w k) (names_kept j l) ∙ e))
          (λ w. inr (w.0, w.1, still_marked w.0 w.2, ap (λ (x : ℕ). called_at x k) (names_kept j l) ∙ w.3))
          (p.calls j l h (before_marked j l m) k b)

      used_before : (j : ℕ) → j < at → mark_at space j ≢ 0
          → (m : ℕ) × (j < m) × (m ≤ at) × (mark_at after m ≢ 0) × (k : ℕ) × (k < 3) × (called_at (names_in after m) k ≡ suc j) × (i ≤ m)
      used_before j h m =
          let (a, b, c, d, k, e, f, g) = p.used j h m in
          (a, b, c, still_marked a d, k, e, ap (λ (x : ℕ). called_at x k) (names_kept a g) ∙ f, omega arith)

      pub planned_visit : mark_at space i ≢ 0 → PlannedFrom rules records n table at i after
      planned_visit full = record {
        upto = omega arith;
        root = still_marked at p.root;
        calls = λ j h b m k l. ⊎_elim (λ (e : i ≡ j). rw (← e, names_now) (calls_here k l)) (λ (g : i < j). calls_there j k g b m l) (eq-or-lt_of_le h);
        used = λ j h m. ⊎_elim (used_before j h)
            (λ w. (i, omega (arith, v.within w.0 w.1, w.2), upto, still_marked i full, w.0, w.1, ap (λ (x : ℕ). called_at x w.0) names_now ∙ w.2, omega arith))
            (visited_was space i v.positions v.names inside v.within j (rw v.is_space at m));
        grounds = λ j h b m. ⊎_elim
            (λ (e : i ≡ j). rw (← e, names_now, positions_now) v.grounds)
            (λ (g : i < j). rw (names_kept j g, positions_kept j g) (p.grounds j g b (before_marked j g m)))
            (eq-or-lt_of_le h);
      }
