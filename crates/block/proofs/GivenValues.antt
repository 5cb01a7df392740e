-- A part of a block has its entries one by one; constants and values of the query stand in a row, and a constant by its number.
use mathlib.Core.{Path.◌≡◌, Path.refl, Path.sym, Path.ap, Path.◌∙◌, List.List, List.◌∷◌, List.◌++◌, Logic.◌≢◌}
use Prim.Native.Nat.{ℕ, zero, suc, ◌+◌, ◌≤◌, ◌<◌}
use native.Mathlib.Omega.{arith}
use lib.{ListN.length, ListN.get_or, ListN.take, ListN.drop, ListN.length-drop, ListN.get_or-eq_default, Seq.ext_get_or, Seq.get_or-take, Seq.get_or-drop, Seq.length-take-le}
use Rattle.words.specs.Entries.{entries}
use Rattle.words.proofs.Tabulate.{entries-length, tabulate_at, tabulate_same, tabulate_add}
use Rattle.block.specs.Layout.{query_count, constant_count, fixed_in, constants_in, query_value, query_values}

pub part_entries : (xs : List ℕ) (from n : ℕ) → from + n ≤ length xs → take n (drop from xs) ≡ entries xs from n
part_entries xs from n h =
    ext_get_or 0 (take n (drop from xs)) (entries xs from n) (long ∙ sym (entries-length xs from n))
    (λ i l. get_or-take n (drop from xs) i 0 (omega (arith, long)) ∙ get_or-drop from xs i 0
    ∙ sym (tabulate_at n (λ (k : ℕ). get_or xs (from + k) 0) 0 i (omega (arith, long))))
  where
    long : length (take n (drop from xs)) ≡ n
    long = length-take-le n (drop from xs) (omega (arith, length-drop from xs))

pub given-row : (query : List ℕ) → entries query 3 (constant_count query + query_count query) ≡ constants_in query ++ query_values query
given-row query =
    tabulate_add (constant_count query) (query_count query) (λ (i : ℕ). get_or query (3 + i) 0)
    ∙ ap (λ (l : List ℕ). constants_in query ++ l)
    (tabulate_same (query_count query) (λ (i : ℕ). get_or query (3 + (constant_count query + i)) 0) (query_value query)
    (λ i h. let e : 3 + (constant_count query + i) ≡ 3 + constant_count query + i = omega arith in ap (λ (k : ℕ). get_or query k 0) e))

-- a fixed value by its number: a constant's, and one past the last
pub fixed_constant : (query : List ℕ) (k : ℕ) → k ≢ 0 → k ≤ constant_count query → get_or query (2 + k) 0 ≡ fixed_in query k
fixed_constant query zero n h = absurd (n refl)
fixed_constant query (suc k) n h =
    let e : 2 + suc k ≡ 3 + k = omega arith in
    ap (λ (i : ℕ). get_or query i 0) e ∙ sym (tabulate_at (constant_count query) (λ (i : ℕ). get_or query (3 + i) 0) 0 k (omega arith))

pub fixed_past : (query : List ℕ) (k : ℕ) → constant_count query < k → 0 ≡ fixed_in query k
fixed_past query k h =
    let long : length (0 ∷ constants_in query) ≤ k = omega (arith, entries-length query 3 (constant_count query)) in
    sym (get_or-eq_default (0 ∷ constants_in query) 0 long)
