-- Open entries, counted: one that gets a value takes one off, one that is opened adds one. Where no value is lost and the count stays, the same
-- entries are open.
use mathlib.Core.{List.List, List.[], List.◌∷◌, Path.◌≡◌, Path.refl, Path.◌∙◌, Logic.◌≢◌}
use Prim.Native.Nat.{ℕ, zero, suc, ◌+◌, ◌≤◌, ◌<◌}
use native.Mathlib.{Omega.arith, Decide.dec_lt}
use borrow.Author.Tests.{lt-ltb, le-ltb}
use lib.{ListN.length, ListN.get_or, ListN.set, ListN.replicate}
use Rattle.std.proofs.lemmas.Grind.{common_steps}
use borrow.Rule.Slice.PartMut.{put_mid}
use Rattle.finding.specs.{Values.open_entry, Values.opens, Found.Opened}

known_cons : (x : ℕ) (xs : List ℕ) → x < open_entry → opens (x ∷ xs) ≡ opens xs
unfolding opens
known_cons x xs h = rw (lt-ltb x open_entry h, opens) refl

open_cons : (x : ℕ) (xs : List ℕ) → open_entry ≤ x → opens (x ∷ xs) ≡ suc (opens xs)
unfolding opens
open_cons x xs h = rw (le-ltb x open_entry h, opens) refl

-- the same entry before both
cons_less : (y : ℕ) (xs ys : List ℕ) → suc (opens xs) ≡ opens ys → suc (opens (y ∷ xs)) ≡ opens (y ∷ ys)
cons_less y xs ys e = step (dec_lt y open_entry)
  where
    step : Dec (y < open_entry) → suc (opens (y ∷ xs)) ≡ opens (y ∷ ys)
    step (yes k) = omega (arith, known_cons y xs k, known_cons y ys k)
    step (no k) = omega (arith, open_cons y xs (omega arith), open_cons y ys (omega arith))

-- an open entry gets a value
pub opens_less : (values : List ℕ) (v x : ℕ) → v < length values → open_entry ≤ get_or values v 0 → x < open_entry → suc (opens (set values v x)) ≡ opens values
opens_less [] v x h o l = absurd (omega arith)
opens_less (y ∷ ys) zero x h o l = omega (arith, open_cons y ys o, known_cons x ys l)
opens_less (y ∷ ys) (suc v) x h o l = cons_less y (set ys v x) ys (opens_less ys v x (omega arith) o l)

-- where there is none, every entry has a value
pub opens_none : (values : List ℕ) → opens values ≡ 0 → (v : ℕ) → get_or values v 0 < open_entry
opens_none [] e v = omega arith
opens_none (y ∷ ys) e v = step (dec_lt y open_entry) v (λ q w. opens_none ys q w)
  where
    step : Dec (y < open_entry) → (v : ℕ) → (opens ys ≡ 0 → (w : ℕ) → get_or ys w 0 < open_entry) → get_or (y ∷ ys) v 0 < open_entry
    step (yes k) zero rec = k
    step (yes k) (suc w) rec = rec (omega (arith, known_cons y ys k)) w
    step (no k) w rec = absurd (omega (arith, open_cons y ys (omega arith)))

-- where there is one, it has a place
pub opens_some : (values : List ℕ) → opens values ≢ 0 → (v : ℕ) × (v < length values) × (open_entry ≤ get_or values v 0)
unfolding opens
opens_some [] n = absurd (n refl)
opens_some (y ∷ ys) n = step (dec_lt y open_entry) (λ m. opens_some ys m)
  where
    step : Dec (y < open_entry) → (opens ys ≢ 0 → (v : ℕ) × (v < length ys) × (open_entry ≤ get_or ys v 0)) → (v : ℕ) × (v < length (y ∷ ys)) × (open_entry ≤ get_or (y ∷ ys) v 0)
    step (yes k) rec = let (v, h, o) = rec (λ e. n (known_cons y ys k ∙ e)) in (suc v, omega arith, o)
    step (no k) rec = (0, omega arith, omega arith)

abbrev Keeping : List ℕ → List ℕ → Type 0
Keeping before after = (v : ℕ) → get_or before v 0 < open_entry → get_or after v 0 < open_entry

-- no value is lost: the count does not grow
pub opens_kept : (before after : List ℕ) → length before ≡ length after → Keeping before after → opens after ≤ opens before
opens_kept [] [] e k = omega arith
opens_kept [] (y ∷ ys) e k = absurd (omega arith)
opens_kept (x ∷ xs) [] e k = absurd (omega arith)
opens_kept (x ∷ xs) (y ∷ ys) e k = step (dec_lt x open_entry) (dec_lt y open_entry) (opens_kept xs ys (omega arith) (λ v h. k (suc v) h))
  where
    step : Dec (x < open_entry) → Dec (y < open_entry) → opens ys ≤ opens xs → opens (y ∷ ys) ≤ opens (x ∷ xs)
    step (yes a) (yes b) rest = omega (arith, known_cons x xs a, known_cons y ys b)
    step (yes a) (no b) rest = absurd (b (k 0 a))
    step (no a) (yes b) rest = omega (arith, open_cons x xs (omega arith), known_cons y ys b)
    step (no a) (no b) rest = omega (arith, open_cons x xs (omega arith), open_cons y ys (omega arith))

-- and where it stays, nothing became known
pub same_known : (before after : List ℕ) → length before ≡ length after → Keeping before after → opens after ≡ opens before
    → (v : ℕ) → get_or after v 0 < open_entry → get_or before v 0 < open_entry
same_known [] [] e k o v h = h
same_known [] (y ∷ ys) e k o v h = absurd (omega arith)
same_known (x ∷ xs) [] e k o v h = absurd (omega arith)
same_known (x ∷ xs) (y ∷ ys) e k o v h =
    step (dec_lt x open_entry) (dec_lt y open_entry) v h (opens_kept xs ys (omega arith) (λ w l. k (suc w) l))
    (λ q w l. same_known xs ys (omega arith) (λ i j. k (suc i) j) q w l)
  where
    step : Dec (x < open_entry) → Dec (y < open_entry) → (v : ℕ) → get_or (y ∷ ys) v 0 < open_entry → opens ys ≤ opens xs
        → (opens ys ≡ opens xs → (w : ℕ) → get_or ys w 0 < open_entry → get_or xs w 0 < open_entry) → get_or (x ∷ xs) v 0 < open_entry
    step (yes a) d zero l few rec = a
    step (yes a) (no b) (suc w) l few rec = absurd (b (k 0 a))
    step (yes a) (yes b) (suc w) l few rec = rec (omega (arith, known_cons x xs a, known_cons y ys b)) w l
    step (no a) (yes b) w l few rec = absurd (omega (arith, open_cons x xs (omega arith), known_cons y ys b))
    step (no a) (no b) zero l few rec = absurd (b l)
    step (no a) (no b) (suc w) l few rec = rec (omega (arith, open_cons x xs (omega arith), open_cons y ys (omega arith))) w l

-- ---- entries opened together: so many, from one on

abbrev pub opened_from : ℕ → ℕ → List ℕ → List ℕ
opened_from from n values = put_mid from n values (replicate n open_entry)

pub length-opened : (from n : ℕ) (values : List ℕ) → from + n ≤ length values → length (opened_from from n values) ≡ length values
length-opened from n values h = grind (arith, common_steps)

-- where all had values, they are all that is open
pub opens_together : (from n : ℕ) (values : List ℕ) → opens values ≡ 0 → from + n ≤ length values → opens (opened_from from n values) ≡ n
opens_together zero zero values e h = e
opens_together zero (suc n) [] e h = absurd (omega arith)
opens_together zero (suc n) (y ∷ ys) e h =
    let known = opens_none (y ∷ ys) e 0 in
    omega (arith, open_cons open_entry (opened_from 0 n ys) (omega arith), opens_together zero n ys (omega (arith, known_cons y ys known)) (omega arith))
opens_together (suc from) n [] e h = absurd (omega arith)
opens_together (suc from) n (y ∷ ys) e h =
    let known = opens_none (y ∷ ys) e 0 in
    omega (arith, known_cons y (opened_from from n ys) known, opens_together from n ys (omega (arith, known_cons y ys known)) (omega arith))

pub opened_together : (from n : ℕ) (values : List ℕ) → from + n ≤ length values → Opened from (from + n) values (opened_from from n values)
opened_together from n values h = record {
  opened = λ v l u. grind (arith, common_steps);
  earlier = λ v u. grind (arith, common_steps);
  later = λ v u. grind (arith, common_steps);
}
