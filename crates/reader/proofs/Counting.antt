-- A count, then that many entries: one entry more is read after the others. The reader of an entry may look at what the entry before left
-- behind, as the reader of an address does; `times` is the case where nothing is left behind.
use mathlib.Core.{Path.◌≡◌, Path.refl, Path.sym, Path.ap, Path.◌∙◌, List.List, List.[], List.◌∷◌, List.◌++◌}
use Prim.Native.Nat.{ℕ, zero, suc, ◌+◌, ◌-◌, ◌<◌}
use native.Mathlib.Omega.{arith}
use borrow.Author.Tests.{le-leb}
use lib.Dec.{leb}
use Rattle.std.specs.Prelude.{Result, Ok, Err}
use Rattle.semantics.specs.Numbered.{number_of}
use Rattle.semantics.specs.declared.Refusal.{Refusal}
use Rattle.semantics.specs.Reader.{Got, got, fault, Reader, onward, ◌>>=◌, give, byte, ensure, times, counted}
use Rattle.reader.specs.Outcome.{Yields, ranged_byte}
use Rattle.reader.proofs.Chain.{assoc, chain, stop, done, turn, alike}

unfoldable pub threaded : {S A : Type 0} → ℕ → S → (S → Reader A) → (A → S) → Reader (List A)
threaded zero s read next = give []
threaded (suc n) s read next = do
  a ← read s
  rest ← threaded n (next a) read next
  give (a ∷ rest)

-- what the last of the entries left behind
unfoldable pub left : {S A : Type 0} → S → (A → S) → List A → S
left s next [] = s
left s next (x ∷ xs) = left (next x) next xs

pub left_snoc : {S A : Type 0} (s : S) (next : A → S) (xs : List A) (x : A) → left s next (xs ++ (x ∷ [])) ≡ next x
unfolding left
left_snoc s next [] x = refl
left_snoc s next (y ∷ xs) x = left_snoc (next y) next xs x

-- one entry more is read after the others
module _ {S A : Type 0} (read : S → Reader A) (next : A → S) where
  abbrev then : S → List A → Reader (List A)
  then s xs = do
    x ← read (left s next xs)
    give (xs ++ (x ∷ []))

  middle : (s : S) (a : A) (r : Got (List A)) → onward (onward r (then (next a))) (λ rest. give (a ∷ rest)) ≡ onward (onward r (λ rest. give (a ∷ rest))) (then s)
  unfolding left
  middle s a (got xs bytes) = sym (assoc (read (left (next a) next xs) bytes) (λ x. give (xs ++ (x ∷ []))) (λ rest. give (a ∷ rest)))
  middle s a (fault n) = refl

  pub last : (n : ℕ) (s : S) (bytes : List ℕ) → threaded (suc n) s read next bytes ≡ onward (threaded n s read next bytes) (then s)
  unfolding threaded left
  last zero s bytes = refl
  last (suc n) s bytes = step (read s bytes) (λ a rest. last n (next a) rest)
    where
      step : (r : Got A) → ((a : A) (rest : List ℕ) → threaded (suc n) (next a) read next rest ≡ onward (threaded n (next a) read next rest) (then (next a)))
          → onward r (λ a. ◌>>=◌ (threaded (suc n) (next a) read next) (λ rest. give (a ∷ rest)))
          ≡ onward (onward r (λ a. ◌>>=◌ (threaded n (next a) read next) (λ rest. give (a ∷ rest)))) (then s)
      step (got a rest) h = ap (λ (g : Got (List A)). onward g (λ rest. give (a ∷ rest))) (h a rest) ∙ middle s a (threaded n (next a) read next rest)
      step (fault m) h = refl

  pub threaded_none : (bytes : List ℕ) (s : S) → Yields (threaded 0 s read next) bytes bytes (Ok [])
  unfolding threaded
  threaded_none bytes s = done bytes []

  pub threaded_more : {b b₁ b₂ : List ℕ} (k : ℕ) (s : S) (xs : List A) (x : A)
      → Yields (threaded k s read next) b b₁ (Ok xs) → Yields (read (left s next xs)) b₁ b₂ (Ok x)
      → Yields (threaded (suc k) s read next) b b₂ (Ok (xs ++ (x ∷ [])))
  threaded_more k s xs x h e = alike _ (last k s) (chain (then s) h (chain _ e (done _ _)))

  -- a refusal at one entry is that of all
  refused_on : (m k : ℕ) (s : S) (bytes : List ℕ) (n : ℕ) → threaded k s read next bytes ≡ fault n → threaded (m + k) s read next bytes ≡ fault n
  refused_on zero k s bytes n h = let e : 0 + k ≡ k = omega arith in rw e h
  refused_on (suc m) k s bytes n h =
      let e : suc m + k ≡ suc (m + k) = omega arith in
      rw e (last (m + k) s bytes ∙ ap (λ (g : Got (List A)). onward g (then s)) (refused_on m k s bytes n h))

  pub threaded_stop : {b b₁ b₂ : List ℕ} {e : Refusal} (n k : ℕ) (s : S) (xs : List A) → k < n
      → Yields (threaded k s read next) b b₁ (Ok xs) → Yields (read (left s next xs)) b₁ b₂ (Err e) → Yields (threaded n s read next) b b₂ (Err e)
  threaded_stop {b} {b₁} {b₂} {e} n k s xs l h f =
      let here : Yields (threaded (suc k) s read next) b b₂ (Err e) = alike _ (last k s) (chain (then s) h (stop _ f)) in
      let on : n - suc k + suc k ≡ n = omega arith in
      record { is = rw on at (refused_on (n - suc k) (suc k) s b (number_of e) here.is) }

module _ {A : Type 0} (read : Reader A) where
  times-threaded : (n : ℕ) → threaded n (tt {0}) (λ _. read) (λ _. tt {0}) ≡ times n read
  unfolding times threaded
  times-threaded zero = refl
  times-threaded (suc n) = ap (λ (more : Reader (List A)). ◌>>=◌ read (λ a. ◌>>=◌ more (λ rest. give (a ∷ rest)))) (times-threaded n)

  pub times_none : (bytes : List ℕ) → Yields (times 0 read) bytes bytes (Ok [])
  times_none bytes = turn (times-threaded 0) (threaded_none (λ (_ : Unit {0}). read) (λ _. tt {0}) bytes (tt {0}))

  pub times_more : {b b₁ b₂ : List ℕ} (k : ℕ) (xs : List A) (x : A)
      → Yields (times k read) b b₁ (Ok xs) → Yields read b₁ b₂ (Ok x) → Yields (times (suc k) read) b b₂ (Ok (xs ++ (x ∷ [])))
  times_more k xs x h e =
      turn (times-threaded (suc k)) (threaded_more (λ (_ : Unit {0}). read) (λ _. tt {0}) k (tt {0}) xs x (turn (sym (times-threaded k)) h) e)

  pub times_stop : {b b₁ b₂ : List ℕ} {e : Refusal} (n k : ℕ) (xs : List A) → k < n
      → Yields (times k read) b b₁ (Ok xs) → Yields read b₁ b₂ (Err e) → Yields (times n read) b b₂ (Err e)
  times_stop n k xs l h f =
      turn (times-threaded n) (threaded_stop (λ (_ : Unit {0}). read) (λ _. tt {0}) n k (tt {0}) xs l (turn (sym (times-threaded k)) h) f)

-- a count in its range, and then what it counts
pub ranged_then : {A : Type 0} {s s' : List ℕ} {r : Result A Refusal} (short range most : ℕ) (next : ℕ → Reader A)
    → Yields (◌>>=◌ (ranged_byte short range 0 most) next) s s' r
    → Yields (◌>>=◌ (byte short) (λ b. ◌>>=◌ (ensure (leb b most) range b) next)) s s' r
ranged_then short range most next h = alike _ same h
  where
    same : (bytes : List ℕ) → onward (byte short bytes) (λ b. ◌>>=◌ (ensure (leb b most) range b) next) ≡ onward (ranged_byte short range 0 most bytes) next
    same [] = refl
    same (b ∷ bytes) = rw (le-leb 0 b (omega arith))

module _ {A : Type 0} {s s₁ : List ℕ} (short range most : ℕ) (read : Reader A) where
  pub counted_read : {s₂ : List ℕ} {m : ℕ} {r : Result (List A) Refusal}
      → Yields (ranged_byte short range 0 most) s s₁ (Ok m) → Yields (times m read) s₁ s₂ r → Yields (counted short range most read) s s₂ r
  unfolding counted
  counted_read h k = ranged_then short range most (λ n. times n read) (chain _ h k)

  pub counted_stop : {e : Refusal} → Yields (ranged_byte short range 0 most) s s₁ (Err e) → Yields (counted short range most read) s s₁ (Err e)
  unfolding counted
  counted_stop h = ranged_then short range most (λ n. times n read) (stop _ h)
