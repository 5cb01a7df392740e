-- Numbering place by place: those passed have their lines' numbers, and third words that name lines; the others are as they were.
use mathlib.Core.{List.List, List.[], List.◌∷◌, List.map, Logic.◌≢◌, Logic.◌⊎◌, Logic.inl, Logic.inr, Logic.⊎_elim}
use mathlib.Core.Path.{◌≡◌, refl, sym, ap, ap₂, ◌∙◌}
use Prim.Native.Nat.{ℕ, suc, ◌+◌, ◌*◌, ◌/◌, ◌%◌, ◌≤◌, ◌<◌}
use native.Mathlib.{Omega.arith, Nat.eq-or-lt_of_le, Nat.mod-eq_of_lt}
use lib.{ListN.length, ListN.get_or, ListN.set, ListN.length-set, Seq.get_or-set_same, Seq.get_or-set_other}
use Rattle.semantics.specs.Lists.{digits}
use Rattle.semantics.proofs.Digits.{digits_of-length}
use Rattle.ground.specs.Grounded.{called_in, called_at}
use Rattle.builder.specs.Space.{mark_at, positions_in, names_in, count, line_of, renamed}
use Rattle.builder.specs.Steps.{number_at, Numberable}
use Rattle.builder.proofs.Counting.{count_marked, count_free, count_below}

-- The places below i are numbered.
pub record NumberedTo (at : ℕ) (before : List ℕ) (i : ℕ) (after : List ℕ) (lines : ℕ) : Type 0 where
  pub upto : i ≤ suc at
  pub counted : lines ≡ count before i
  pub small : lines ≤ i
  pub long : length after ≡ length before
  pub free : (j : ℕ) → j < i → mark_at before j ≡ 0 → mark_at after j ≡ 0
  pub marked : (j : ℕ) → j < i → mark_at before j ≢ 0 → mark_at after j ≡ suc (count before j)
  pub positions : (j : ℕ) → positions_in after j ≡ positions_in before j
  pub names : (j : ℕ) → j < i → mark_at before j ≢ 0 → names_in after j ≡ renamed before (names_in before j)
  pub marks_rest : (j : ℕ) → i ≤ j → mark_at after j ≡ mark_at before j
  pub names_rest : (j : ℕ) → i ≤ j → names_in after j ≡ names_in before j

map_same : (f g : ℕ → ℕ) (xs : List ℕ) → ((k : ℕ) → k < length xs → f (get_or xs k 0) ≡ g (get_or xs k 0)) → map f xs ≡ map g xs
map_same f g [] h = refl
map_same f g (x ∷ xs) h = ap₂ (λ (y : ℕ) (ys : List ℕ). y ∷ ys) (h 0 (omega arith)) (map_same f g xs (λ k l. h (suc k) (omega arith)))

module _ {at : ℕ} {before : List ℕ} (ready : Numberable at before) where
  pub numbered_none : NumberedTo at before 0 before 0
  unfolding count
  numbered_none = record {
    upto = omega arith;
    counted = refl;
    small = omega arith;
    long = refl;
    free = λ j h. absurd (omega arith);
    marked = λ j h. absurd (omega arith);
    positions = λ j. refl;
    names = λ j h. absurd (omega arith);
    marks_rest = λ j h. refl;
    names_rest = λ j h. refl;
  }

  module _ {i : ℕ} {after : List ℕ} {lines : ℕ} (upto : i ≤ at) (r : NumberedTo at before i after lines) where
    -- what the numbers passed say of the called places of place i
    called_lines : (again : List ℕ) → ((j : ℕ) → j < i → mark_at again j ≡ mark_at after j) → mark_at before i ≢ 0
        → map (number_at again) (called_in (names_in before i)) ≡ map (line_of before) (called_in (names_in before i))
    unfolding line_of
    called_lines again same z =
        map_same (number_at again) (line_of before) (called_in (names_in before i))
        (λ k l. one k (ready.planned.calls i upto z k (omega (arith, digits_of-length 65536 3 (names_in before i / 256)))))
      where
        one : (k : ℕ) → (called_at (names_in before i) k ≡ 0) ⊎ ((j : ℕ) × (j < i) × (mark_at before j ≢ 0) × (called_at (names_in before i) k ≡ suc j))
            → number_at again (called_at (names_in before i) k) ≡ line_of before (called_at (names_in before i) k)
        one k (inl e) = rw e refl
        one k (inr (j, l, m, e)) =
            let small : suc (count before j) < 65536 = omega (arith, count_below before j, ready.few) in
            rw e (ap (λ (x : ℕ). x % 65536) (same j l ∙ r.marked j l m) ∙ mod-eq_of_lt small)

    pub numbered_free : mark_at after i ≡ 0 → NumberedTo at before (i + 1) after lines
    numbered_free z =
        let free : mark_at before i ≡ 0 = sym (r.marks_rest i (omega arith)) ∙ z in
        let one : i + 1 ≡ suc i = omega arith in
        record {
          upto = omega arith;
          small = omega (arith, r.small);
          counted = r.counted ∙ sym (ap (count before) one ∙ count_free before i free);
          long = r.long;
          free = λ j h e. ⊎_elim (λ (q : j ≡ i). ap (mark_at after) q ∙ z) (λ (l : j < i). r.free j l e) (eq-or-lt_of_le (omega arith));
          marked = λ j h n. ⊎_elim (λ (q : j ≡ i). absurd (n (ap (mark_at before) q ∙ free))) (λ (l : j < i). r.marked j l n) (eq-or-lt_of_le (omega arith));
          positions = r.positions;
          names = λ j h n. ⊎_elim (λ (q : j ≡ i). absurd (n (ap (mark_at before) q ∙ free))) (λ (l : j < i). r.names j l n) (eq-or-lt_of_le (omega arith));
          marks_rest = λ j h. r.marks_rest j (omega arith);
          names_rest = λ j h. r.names_rest j (omega arith);
        }

    abbrev numbered : List ℕ
    numbered = set after (3 * i) (lines + 1)

    pub numbered_more : mark_at after i ≢ 0 → (word : ℕ)
        → word ≡ names_in numbered i % 256 + 256 * digits 65536 (map (number_at numbered) (called_in (names_in numbered i)))
        → NumberedTo at before (i + 1) (set numbered (3 * i + 2) word) (lines + 1)
    numbered_more z word is =
        let one : i + 1 ≡ suc i = omega arith in
        let full : mark_at before i ≢ 0 = λ e. z (r.marks_rest i (omega arith) ∙ e) in
        let inside : 3 * i + 2 < length after = omega (arith, r.long, ready.inside) in
        let same : names_in numbered i ≡ names_in before i = get_or-set_other after (3 * i) (3 * i + 2) (lines + 1) 0 (λ e. omega arith) ∙ r.names_rest i (omega arith) in
        let renaming : word ≡ renamed before (names_in before i) =
        is ∙ ap (λ (w : ℕ). w % 256 + 256 * digits 65536 (map (number_at numbered) (called_in w))) same
        ∙ ap (λ (xs : List ℕ). names_in before i % 256 + 256 * digits 65536 xs)
        (called_lines numbered (λ j l. get_or-set_other after (3 * i) (3 * j) (lines + 1) 0 (λ e. omega arith)) full) in
        let here : (j : ℕ) → j ≡ i → mark_at (set numbered (3 * i + 2) word) j ≡ suc (count before j) = λ j q.
        get_or-set_other numbered (3 * i + 2) (3 * j) word 0 (λ e. omega arith) ∙ ap (mark_at numbered) q ∙ get_or-set_same after (3 * i) (lines + 1) 0 (omega arith)
        ∙ omega (arith, r.counted, ap (count before) q) in
        let there : (j : ℕ) → j ≢ i → mark_at (set numbered (3 * i + 2) word) j ≡ mark_at after j = λ j n.
        get_or-set_other numbered (3 * i + 2) (3 * j) word 0 (λ e. omega arith) ∙ get_or-set_other after (3 * i) (3 * j) (lines + 1) 0 (λ e. n (omega arith)) in
        let there_names : (j : ℕ) → j ≢ i → names_in (set numbered (3 * i + 2) word) j ≡ names_in after j = λ j n.
        get_or-set_other numbered (3 * i + 2) (3 * j + 2) word 0 (λ e. n (omega arith)) ∙ get_or-set_other after (3 * i) (3 * j + 2) (lines + 1) 0 (λ e. omega arith) in
        record {
          upto = omega arith;
          small = omega (arith, r.small);
          counted = omega (arith, r.counted, ap (count before) one, count_marked before i full);
          long = length-set numbered (3 * i + 2) word ∙ length-set after (3 * i) (lines + 1) ∙ r.long;
          free = λ j h e. ⊎_elim (λ (q : j ≡ i). absurd (full (ap (mark_at before) (sym q) ∙ e)))
              (λ (l : j < i). there j (λ q. omega arith) ∙ r.free j l e) (eq-or-lt_of_le (omega arith));
          marked = λ j h n. ⊎_elim (here j) (λ (l : j < i). there j (λ q. omega arith) ∙ r.marked j l n) (eq-or-lt_of_le (omega arith));
          positions = λ j. get_or-set_other numbered (3 * i + 2) (3 * j + 1) word 0 (λ e. omega arith) ∙ get_or-set_other after (3 * i) (3 * j + 1) (lines + 1) 0 (λ e. omega arith) ∙ r.positions j;
          names = λ j h n. ⊎_elim
              (λ (q : j ≡ i). ap (names_in (set numbered (3 * i + 2) word)) q
              ∙ get_or-set_same numbered (3 * i + 2) word 0 (omega (arith, length-set after (3 * i) (lines + 1))) ∙ renaming ∙ ap (λ (x : ℕ). renamed before (names_in before x)) (sym q))
              (λ (l : j < i). there_names j (λ q. omega arith) ∙ r.names j l n) (eq-or-lt_of_le (omega arith));
          marks_rest = λ j h. there j (λ q. omega arith) ∙ r.marks_rest j (omega arith);
          names_rest = λ j h. there_names j (λ q. omega arith) ∙ r.names_rest j (omega arith);
        }
