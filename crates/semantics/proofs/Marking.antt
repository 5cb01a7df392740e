-- Marking records as taken: one list after another, and from the empty mask, where what is marked is the subheap of a list without repeats.
use mathlib.Core.{Path.◌≡◌, Path.refl, Path.sym, Logic.⊎_elim}
use mathlib.Core.List.Memᴰ
use mathlib.Core.List.{List, [], ◌∷◌, ◌++◌}
use Prim.Native.Nat.{ℕ, ◌+◌, ◌^◌}
use native.Mathlib.{Omega.arith, Nat.add-zero}
use Rattle.semantics.specs.{Lists.◌among◌, Lists.Distinct, Heap.set_of, Heap.Disjoint, WalkOutcome.Marks}
use Rattle.semantics.proofs.Sharing.{disjoint_lists, lists_disjoint}

pub marks_append : {mask middle after : ℕ} {xs ys : List ℕ} → Marks mask xs middle → Marks middle ys after → Marks mask (xs ++ ys) after
marks_append Marks.none m = m
marks_append (Marks.next e k) m = Marks.next e (marks_append k m)

pub marks_split : {mask after : ℕ} (xs : List ℕ) {ys : List ℕ} → Marks mask (xs ++ ys) after → (middle : ℕ) × Marks mask xs middle × Marks middle ys after
marks_split {mask = mask} [] m = (mask, Marks.none, m)
marks_split {mask = mask} (x ∷ xs) (Marks.next e m) = let (k, p, q) = marks_split {mask = 2 ^ x + mask} xs m in (k, Marks.next e p, q)

marks_once : {mask a b : ℕ} {xs : List ℕ} → Marks mask xs a → Marks mask xs b → a ≡ b
marks_once Marks.none Marks.none = refl
marks_once (Marks.next e m) (Marks.next e' m') = marks_once m m'

-- equal lists leave one mask
pub marks_same : {mask a b : ℕ} {xs ys : List ℕ} → xs ≡ ys → Marks mask xs a → Marks mask ys b → a ≡ b
marks_same e m m' = marks_once (rw e at m) m'

-- what is marked stands once, and was not marked before
pub marks_out : (xs ys : List ℕ) {after : ℕ} → Distinct ys → Marks (set_of ys) xs after
    → (after ≡ set_of xs + set_of ys) × Distinct xs × ((i : ℕ) → i among xs → ¬ (i among ys))
marks_out [] ys d Marks.none = (omega arith, Distinct.none, λ i m. absurd (Memᴰ.not-nil m))
marks_out (x ∷ xs) ys d (Marks.next e m) =
    let single : Disjoint (set_of (x ∷ [])) (set_of ys) = rw (add-zero (2 ^ x)) e in
    let out : ¬ (x among ys) = lists_disjoint (x ∷ []) ys (Distinct.next Memᴰ.not-nil Distinct.none) d single x (Memᴰ.head refl) in
    let (q, dx, apart) = marks_out xs (x ∷ ys) (Distinct.next out d) m in (
      omega arith,
      Distinct.next (λ k. apart x k (Memᴰ.head refl)) dx,
      λ i k. ⊎_elim (λ (p : i ≡ x). λ l. out (Memᴰ.cast (sym p) l)) (λ l n. apart i l (Memᴰ.tail n)) (Memᴰ.cases_cons k),
    )

pub marks_in : (xs ys : List ℕ) {after : ℕ} → after ≡ set_of xs + set_of ys → Distinct xs → Distinct ys → ((i : ℕ) → i among xs → ¬ (i among ys))
    → Marks (set_of ys) xs after
marks_in [] ys {after} q dx dy apart = let e : after ≡ set_of ys = omega arith in rw e Marks.none
marks_in (x ∷ xs) ys {after} q (Distinct.next n dx) dy apart =
    let e : Disjoint (set_of (x ∷ [])) (set_of ys) =
    disjoint_lists (x ∷ []) ys (Distinct.next Memᴰ.not-nil Distinct.none) dy
    (λ i m. ⊎_elim (λ (p : i ≡ x). λ k. apart x (Memᴰ.head refl) (Memᴰ.cast (sym p) k)) (λ z. absurd (Memᴰ.not-nil z)) (Memᴰ.cases_cons m)) in
    Marks.next {after = after} (rw (add-zero (2 ^ x)) at e)
    (marks_in xs (x ∷ ys) (omega arith) dx (Distinct.next (apart x (Memᴰ.head refl)) dy)
    (λ i m k. ⊎_elim (λ (p : i ≡ x). n (Memᴰ.cast (sym p) m)) (apart i (Memᴰ.tail m)) (Memᴰ.cases_cons k)))
