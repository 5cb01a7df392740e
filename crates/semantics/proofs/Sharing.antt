-- Two words share a bit exactly if their conjunction is not 0, since a bit of it is one where it is one in both. The subheaps of two lists of
-- records share one exactly if the lists have a common member.
use mathlib.Core.{Path.◌≡◌, Path.sym, Path.ap, Path.◌∙◌, Logic.◌≢◌, Logic.by_cases}
use mathlib.Core.List.{List, [], ◌∷◌}
use Prim.Native.Nat.{ℕ, ◌+◌, ◌^◌, ◌≤◌, ◌<◌}
use native.Mathlib.{Omega.arith, Decide.ℕ_discrete, Decide.dec_lt, Nat.add-zero, Nat.div-eq_of_lt, Nat.lt_of_lt_of_le}
use lib.{Bits.bit_and, Pow.pow_mono}
use Rattle.semantics.specs.{Lists.◌among◌, Lists.Distinct, Heap.set_of, Heap.Shares, Heap.Disjoint, Heap.Joins}
use Rattle.semantics.proofs.Bits.{bit, bit_zero, bit_few, bit_at, bit_and_lem, some_bit, bit_in, bit_out, dec_in}

shared : (a b i : ℕ) → bit a i ≡ 1 → bit b i ≡ 1 → Shares a b
shared a b i p q = record { place = i; left = bit_at a i ∙ p; right = bit_at b i ∙ q }

shared_left : {a b : ℕ} (s : Shares a b) → bit a s.place ≡ 1
shared_left {a} s = sym (bit_at a s.place) ∙ s.left

shared_right : {a b : ℕ} (s : Shares a b) → bit b s.place ≡ 1
shared_right {b = b} s = sym (bit_at b s.place) ∙ s.right

pub shares_comm : {a b : ℕ} → Shares a b → Shares b a
shares_comm s = record { place = s.place; left = s.right; right = s.left }

pub disjoint_comm : {a b : ℕ} → Disjoint a b → Disjoint b a
disjoint_comm d s = d (shares_comm s)

-- a subheap shares a record with itself, unless it is empty
pub shares_itself : (a : ℕ) → a ≢ 0 → Shares a a
shares_itself a z = let (i, e) = some_bit a z in shared a a i e e

pub disjoint_none : (a : ℕ) → Disjoint a 0
disjoint_none a s = omega (arith, shared_right s, bit_zero s.place)

-- ---- the conjunction

pub shares_and : (a b : ℕ) → Shares a b → bit_and a b ≢ 0
shares_and a b s e =
    omega (arith, shared_left s, shared_right s, bit_and_lem a b s.place, ap (λ (n : ℕ). bit n s.place) e, bit_zero s.place)

pub and_shares : (a b : ℕ) → bit_and a b ≢ 0 → Shares a b
and_shares a b z =
    let (i, e) = some_bit (bit_and a b) z in
    let (p, q) = both i e in
    shared a b i p q
  where
    both : (i : ℕ) → bit (bit_and a b) i ≡ 1 → (bit a i ≡ 1) × (bit b i ≡ 1)
    both i e = let m = bit_and_lem a b i in (omega (arith, e, m, bit_few a i, bit_few b i), omega (arith, e, m, bit_few a i, bit_few b i))

pub and_disjoint : (a b : ℕ) → bit_and a b ≡ 0 → Disjoint a b
and_disjoint a b e s = shares_and a b s e

pub disjoint_and : (a b : ℕ) → Disjoint a b → bit_and a b ≡ 0
disjoint_and a b d = by_cases (ℕ_discrete (bit_and a b) 0) (λ e. e) (λ z. absurd (d (and_shares a b z)))

-- the bit that is shared is one of the word's
pub shared_within : (k a b : ℕ) → a < 2 ^ k → (s : Shares a b) → s.place < k
shared_within k a b h s =
    by_cases (dec_lt s.place k) (λ l. l)
    (λ l. let m : k ≤ s.place = omega arith in absurd (omega (arith, s.left, div-eq_of_lt (lt_of_lt_of_le h (pow_mono m)))))

-- ---- lists of records

pub shares_lists : (xs ys : List ℕ) → Distinct xs → Distinct ys → Shares (set_of xs) (set_of ys) → (i : ℕ) × (i among xs) × (i among ys)
shares_lists xs ys dx dy s = (s.place, in_list xs dx (shared_left s), in_list ys dy (shared_right s))
  where
    in_list : (zs : List ℕ) → Distinct zs → bit (set_of zs) s.place ≡ 1 → s.place among zs
    in_list zs d e = by_cases (dec_in s.place zs) (λ m. m) (λ n. absurd (omega (arith, e, bit_out zs d s.place n)))

pub lists_share : (xs ys : List ℕ) → Distinct xs → Distinct ys → (i : ℕ) → i among xs → i among ys → Shares (set_of xs) (set_of ys)
lists_share xs ys dx dy i m k = shared (set_of xs) (set_of ys) i (bit_in xs dx i m) (bit_in ys dy i k)

pub disjoint_lists : (xs ys : List ℕ) → Distinct xs → Distinct ys → ((i : ℕ) → i among xs → ¬ (i among ys)) → Disjoint (set_of xs) (set_of ys)
disjoint_lists xs ys dx dy apart s = let (i, m, k) = shares_lists xs ys dx dy s in apart i m k

pub lists_disjoint : (xs ys : List ℕ) → Distinct xs → Distinct ys → Disjoint (set_of xs) (set_of ys) → (i : ℕ) → i among xs → ¬ (i among ys)
lists_disjoint xs ys dx dy d i m k = d (lists_share xs ys dx dy i m k)

-- ---- two parts

pub joins_two : (a b whole : ℕ) → Joins (a ∷ b ∷ []) whole → Disjoint a b × (whole ≡ a + b)
joins_two a b whole (Joins.next d (Joins.next n Joins.none e) w) = let q = e ∙ add-zero b in (rw q at d, omega arith)

pub two_join : (a b whole : ℕ) → Disjoint a b → whole ≡ a + b → Joins (a ∷ b ∷ []) whole
two_join a b whole d w = Joins.next d (Joins.next (disjoint_none b) Joins.none (sym (add-zero b))) w
