-- Two stretches of five bytes that change places, byte by byte.
use mathlib.Core.{Path.◌≡◌, Path.refl, Path.sym, Path.subst, Path.◌∙◌, Logic.◌⊎◌, Logic.inl, Logic.inr, Logic.⊎_elim, Logic.◌≢◌, List.List}
use Prim.Native.Nat.{ℕ, ◌+◌, ◌≤◌, ◌<◌}
use native.Mathlib.{Omega.arith, Nat.eq-or-lt_of_le}
use lib.{ListN.length, ListN.get_or, ListN.set, ListN.length-set, Seq.get_or-set_same, Seq.get_or-set_other}
use Rattle.block.specs.Layout.{call_place}
use Rattle.block.specs.Exchanged.{CallsExchanged}

-- the first j of them have
pub record Traded (xs ys : List ℕ) (s j : ℕ) : Type 0 where
  pub long : length ys ≡ length xs
  pub first : (i : ℕ) → i < j → get_or ys (s + i) 0 ≡ get_or xs (s + 5 + i) 0
  pub second : (i : ℕ) → i < j → get_or ys (s + 5 + i) 0 ≡ get_or xs (s + i) 0
  pub rest : (k : ℕ) → (k < s) ⊎ (s + j ≤ k) → (k < s + 5) ⊎ (s + 5 + j ≤ k) → get_or ys k 0 ≡ get_or xs k 0

pub traded_none : (xs : List ℕ) (s : ℕ) → Traded xs xs s 0
traded_none xs s = record { long = refl; first = λ i l. absurd (omega arith); second = λ i l. absurd (omega arith); rest = λ k a b. refl }

-- a byte elsewhere
two_other : (ys : List ℕ) (a b x y k : ℕ) → k ≢ a → k ≢ b → get_or (set (set ys a x) b y) k 0 ≡ get_or ys k 0
two_other ys a b x y k p q = get_or-set_other (set ys a x) b k y 0 q ∙ get_or-set_other ys a k x 0 p

module _ (xs ys : List ℕ) (s j x y : ℕ) (few : j < 5) (room : s + 10 ≤ length xs) (t : Traded xs ys s j)
    (ex : x ≡ get_or ys (s + j) 0) (ey : y ≡ get_or ys (s + 5 + j) 0) where
  abbrev pub after : List ℕ
  after = set (set ys (s + j) y) (s + 5 + j) x

  at_first : get_or after (s + j) 0 ≡ get_or xs (s + 5 + j) 0
  at_first = get_or-set_other (set ys (s + j) y) (s + 5 + j) (s + j) x 0 (λ e. omega (arith, e)) ∙ get_or-set_same ys (s + j) y 0 (omega (arith, t.long)) ∙ ey
      ∙ t.rest (s + 5 + j) (inr (omega arith)) (inr (omega arith))

  at_second : get_or after (s + 5 + j) 0 ≡ get_or xs (s + j) 0
  at_second = get_or-set_same (set ys (s + j) y) (s + 5 + j) x 0 (omega (arith, t.long, length-set ys (s + j) y)) ∙ ex
      ∙ t.rest (s + j) (inr (omega arith)) (inl (omega arith))

  pub traded_more : Traded xs after s (j + 1)
  traded_more = record {
    long = length-set (set ys (s + j) y) (s + 5 + j) x ∙ length-set ys (s + j) y ∙ t.long;
    first = λ i l. ⊎_elim (λ (e : i ≡ j). subst (λ (k : ℕ). get_or after (s + k) 0 ≡ get_or xs (s + 5 + k) 0) (sym e) at_first)
        (λ (h : i < j). two_other ys (s + j) (s + 5 + j) y x (s + i) (λ e. omega (arith, e)) (λ e. omega (arith, e)) ∙ t.first i h) (eq-or-lt_of_le (omega arith));
    second = λ i l. ⊎_elim (λ (e : i ≡ j). subst (λ (k : ℕ). get_or after (s + 5 + k) 0 ≡ get_or xs (s + k) 0) (sym e) at_second)
        (λ (h : i < j). two_other ys (s + j) (s + 5 + j) y x (s + 5 + i) (λ e. omega (arith, e)) (λ e. omega (arith, e)) ∙ t.second i h) (eq-or-lt_of_le (omega arith));
    rest = λ k a b. two_other ys (s + j) (s + 5 + j) y x k
        (λ e. ⊎_elim (λ l. omega (arith, e, l)) (λ l. omega (arith, e, l)) a) (λ e. ⊎_elim (λ l. omega (arith, e, l)) (λ l. omega (arith, e, l)) b)
        ∙ t.rest k (⊎_elim inl (λ l. inr (omega (arith, l))) a) (⊎_elim inl (λ l. inr (omega (arith, l))) b);
  }

pub traded_all : (xs ys : List ℕ) (at s : ℕ) → s ≡ at + 61 → Traded xs ys s 5 → CallsExchanged xs at ys
traded_all xs ys at s e t = record {
  long = t.long;
  second = λ j l. let p : call_place at 1 + j ≡ s + j = omega arith in let q : call_place at 2 + j ≡ s + 5 + j = omega arith in rw (p, q) (t.first j l);
  third = λ j l. let p : call_place at 1 + j ≡ s + j = omega arith in let q : call_place at 2 + j ≡ s + 5 + j = omega arith in rw (p, q) (t.second j l);
  before = λ i l. t.rest i (inl (omega arith)) (inl (omega arith));
  behind = λ i l. t.rest i (inr (omega arith)) (inr (omega arith));
}
