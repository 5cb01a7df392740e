-- Gathering place by place: the lines of the places passed stand where their numbers say, and the other places are as they were. A line
-- is written at or before its place, and behind the lines before it.
use mathlib.Core.{List.List, Logic.◌≢◌, Logic.⊎_elim, Path.◌≡◌, Path.sym, Path.ap, Path.◌∙◌}
use Prim.Native.Nat.{ℕ, suc, ◌+◌, ◌-◌, ◌*◌, ◌≤◌, ◌<◌}
use native.Mathlib.{Omega.arith, Nat.eq-or-lt_of_le}
use lib.{ListN.length, ListN.get_or, ListN.set, ListN.length-set, Seq.get_or-set_same, Seq.get_or-set_other}
use Rattle.semantics.specs.Certificate.{fact_at, positions_at, rule_at}
use Rattle.table.specs.Layered.{code_at}
use Rattle.builder.specs.{Space.mark_at, Space.positions_in, Space.names_in, Steps.putting, Steps.Lined}

-- The lines of the places below i are written.
pub record GatheredTo (table : List ℕ) (at : ℕ) (before : List ℕ) (i : ℕ) (after : List ℕ) : Type 0 where
  pub upto : i ≤ suc at
  pub long : length after ≡ length before
  pub facts : (j : ℕ) → j < i → mark_at before j ≢ 0 → fact_at after (mark_at before j) ≡ code_at table j
  pub positions : (j : ℕ) → j < i → mark_at before j ≢ 0 → positions_at after (mark_at before j) ≡ positions_in before j
  pub names : (j : ℕ) → j < i → mark_at before j ≢ 0 → rule_at after (mark_at before j) ≡ names_in before j
  pub rest : (k : ℕ) → 3 * i ≤ k → get_or after k 0 ≡ get_or before k 0

-- what writing a line leaves
module _ (space : List ℕ) (line fact positions names : ℕ) (low : 1 ≤ line) (inside : 3 * line ≤ length space) where
  pub put_long : length (putting space line fact positions names) ≡ length space
  put_long = simp length-set

  put_other : (k : ℕ) → k ≢ 3 * line - 3 → k ≢ 3 * line - 2 → k ≢ 3 * line - 1 → get_or (putting space line fact positions names) k 0 ≡ get_or space k 0
  put_other k a b c =
      get_or-set_other (set (set space (3 * line - 3) fact) (3 * line - 2) positions) (3 * line - 1) k names 0 c
      ∙ get_or-set_other (set space (3 * line - 3) fact) (3 * line - 2) k positions 0 b ∙ get_or-set_other space (3 * line - 3) k fact 0 a

  put_fact : fact_at (putting space line fact positions names) line ≡ fact
  put_fact =
      get_or-set_other (set (set space (3 * line - 3) fact) (3 * line - 2) positions) (3 * line - 1) (3 * line - 3) names 0 (λ e. omega arith)
      ∙ get_or-set_other (set space (3 * line - 3) fact) (3 * line - 2) (3 * line - 3) positions 0 (λ e. omega arith)
      ∙ get_or-set_same space (3 * line - 3) fact 0 (omega arith)

  put_positions : positions_at (putting space line fact positions names) line ≡ positions
  put_positions =
      get_or-set_other (set (set space (3 * line - 3) fact) (3 * line - 2) positions) (3 * line - 1) (3 * line - 2) names 0 (λ e. omega arith)
      ∙ get_or-set_same (set space (3 * line - 3) fact) (3 * line - 2) positions 0 (simp length-set (omega arith))

  put_names : rule_at (putting space line fact positions names) line ≡ names
  put_names = get_or-set_same (set (set space (3 * line - 3) fact) (3 * line - 2) positions) (3 * line - 1) names 0 (simp length-set (omega arith))

module _ {table : List ℕ} {at : ℕ} {before : List ℕ} (ready : Lined at before) where
  module _ {i : ℕ} {after : List ℕ} (upto : i ≤ at) (r : GatheredTo table at before i after) where
    pub gathered_free : mark_at after i ≡ 0 → GatheredTo table at before (i + 1) after
    gathered_free z =
        let free : mark_at before i ≡ 0 = sym (r.rest (3 * i) (omega arith)) ∙ z in
        record {
          upto = omega arith;
          long = r.long;
          facts = λ j h n. ⊎_elim (λ (q : j ≡ i). absurd (n (ap (mark_at before) q ∙ free))) (λ (l : j < i). r.facts j l n) (eq-or-lt_of_le (omega arith));
          positions = λ j h n. ⊎_elim (λ (q : j ≡ i). absurd (n (ap (mark_at before) q ∙ free))) (λ (l : j < i). r.positions j l n) (eq-or-lt_of_le (omega arith));
          names = λ j h n. ⊎_elim (λ (q : j ≡ i). absurd (n (ap (mark_at before) q ∙ free))) (λ (l : j < i). r.names j l n) (eq-or-lt_of_le (omega arith));
          rest = λ k h. r.rest k (omega arith);
        }

    -- the number of place i, and where its line goes
    pub line_low : 0 < mark_at after i → (mark_at after i ≤ suc i) × (3 * mark_at after i ≤ length after)
    line_low z =
        let same : mark_at after i ≡ mark_at before i = r.rest (3 * i) (omega arith) in
        (omega (arith, ready.low i upto), omega (arith, ready.low i upto, ready.inside, r.long))

    pub gathered_more : 0 < mark_at after i → {written : List ℕ} → written ≡ putting after (mark_at after i) (code_at table i) (positions_in after i) (names_in after i)
        → GatheredTo table at before (i + 1) written
    gathered_more z is = rw is (record {
      upto = omega arith;
      long = put_long after line (code_at table i) (positions_in after i) (names_in after i) (omega arith) fits ∙ r.long;
      facts = λ j h n. ⊎_elim (λ (q : j ≡ i). ap (λ (x : ℕ). fact_at put (mark_at before x)) q ∙ ap (fact_at put) (sym same)
          ∙ put_fact after line (code_at table i) (positions_in after i) (names_in after i) (omega arith) fits ∙ ap (code_at table) (sym q))
          (λ (l : j < i). older j l (3 * mark_at before j - 3) (omega (arith, below j l)) ∙ r.facts j l n) (eq-or-lt_of_le (omega arith));
      positions = λ j h n. ⊎_elim (λ (q : j ≡ i). ap (λ (x : ℕ). positions_at put (mark_at before x)) q ∙ ap (positions_at put) (sym same)
          ∙ put_positions after line (code_at table i) (positions_in after i) (names_in after i) (omega arith) fits ∙ r.rest (3 * i + 1) (omega arith) ∙ ap (positions_in before) (sym q))
          (λ (l : j < i). older j l (3 * mark_at before j - 2) (omega (arith, below j l)) ∙ r.positions j l n) (eq-or-lt_of_le (omega arith));
      names = λ j h n. ⊎_elim (λ (q : j ≡ i). ap (λ (x : ℕ). rule_at put (mark_at before x)) q ∙ ap (rule_at put) (sym same)
          ∙ put_names after line (code_at table i) (positions_in after i) (names_in after i) (omega arith) fits ∙ r.rest (3 * i + 2) (omega arith) ∙ ap (names_in before) (sym q))
          (λ (l : j < i). older j l (3 * mark_at before j - 1) (omega (arith, below j l)) ∙ r.names j l n) (eq-or-lt_of_le (omega arith));
      rest = λ k h. put_other after line (code_at table i) (positions_in after i) (names_in after i) (omega arith) fits k
          (λ e. omega (arith, (line_low z).0)) (λ e. omega (arith, (line_low z).0)) (λ e. omega (arith, (line_low z).0)) ∙ r.rest k (omega arith);
    })
      where
        line : ℕ
        line = mark_at after i

        put : List ℕ
        put = putting after (mark_at after i) (code_at table i) (positions_in after i) (names_in after i)

        same : mark_at after i ≡ mark_at before i
        same = r.rest (3 * i) (omega arith)

        fits : 3 * mark_at after i ≤ length after
        fits = (line_low z).1

        below : (j : ℕ) → j < i → mark_at before j < mark_at after i
        below j l = omega (arith, same, ready.rises j i l upto (λ e. omega (arith, same)))

        older : (j : ℕ) → j < i → (k : ℕ) → k < 3 * mark_at after i - 3 → get_or put k 0 ≡ get_or after k 0
        older j l k h = put_other after (mark_at after i) (code_at table i) (positions_in after i) (names_in after i) (omega arith) fits k (λ e. omega arith) (λ e. omega arith) (λ e. omega arith)
