-- Tests of the numbers of a range, by `all` and `find` with a closure that changes nothing.
use Rattle.std.proofs.Common.{◌≡◌, ℕ, ◌+◌, ◌-◌, ◌≤◌, ◌<◌, Bool, true, false, List, length, get_or, Option, None, Some, MatchOption, MatchBool, arith}
use Rattle.std.specs.Bool.{⊤}
use mathlib.Core.{Bool.false≢true, Path.subst, Path.refl}
use denote.Ref.{Bor}
use denote.Param.Members.{Mut}
use Rattle.std.specs.declared.ops.Range.{Range}
use Rattle.std.specs.Iterator.{YieldsThen}
use Rattle.std.specs.List.{FoldsTo, range_with_len, AllWithin, HoldsAt}
use Rattle.std.specs.Fn.{Called, CalledAt}
use Rattle.std.proofs.iter.Yields.{nat_range_steps}
use Rattle.std.proofs.lemmas.Iterator.{cases_from_all, cases_from_any, first_from_Range, YieldsList-from_range}
use Rattle.std.proofs.lemmas.List.FromFn.{length-range_with_len, get_or-range_with_len}
use Rattle.words.specs.Told.{Told}
use Rattle.words.proofs.Answers.{told_true, told_false}

-- every number passes
pub told_all : {F : Type 0} {g : Mut F (ℕ × Unit {0}) Bool} (s u : Range ℕ) (f : F) (r : Bool) (P : ℕ → Type 0)
    → (xs : List ℕ) × (o : Option ℕ) × (j : F) × YieldsThen nat_range_steps s xs o u × FoldsTo (λ p x q. Called g p (x, tt) true q) f xs j × MatchOption o (r ≡ true) (λ x. (r ≡ false) × ((h : F) × Called g j (x, tt) false h))
    → ((x : ℕ) (q : F) (b : Bool) → Called g f (x, tt) b q → (q ≡ f) × Told b (P x)) → Told r ((k : ℕ) → s.start ≤ k → k < s.end → P k)
told_all s u f r P d each =
    by r (cases_from_all u f r P (λ x. ¬ P x) d (YieldsList-from_range s.start s.end _ refl refl)
    (λ x q c. let e = each x q true c in (e.0, e.1.so refl)) (λ x q c. (each x q false c).1.not_so refl))
  where
    all : List ℕ
    all = range_with_len s.start (s.end - s.start)

    long : length all ≡ s.end - s.start
    long = length-range_with_len s.start (s.end - s.start)

    at : (i : ℕ) → i < s.end - s.start → get_or all i 0 ≡ s.start + i
    at i h = get_or-range_with_len s.start (s.end - s.start) i 0 h

    by : (b : Bool) → MatchBool b (AllWithin P all 0 (length all)) ((k : ℕ) × (k < length all) × HoldsAt (λ x. ¬ P x) all k) → Told b ((k : ℕ) → s.start ≤ k → k < s.end → P k)
    by true h = told_true (λ k a b. subst P {x = get_or all (k - s.start) 0} {y = k} (omega (arith, at (k - s.start) (omega arith))) (h (k - s.start) 0 (omega arith) (omega (arith, long))))
    by false h = told_false (λ p. let i : h.0 < s.end - s.start = omega (arith, long, h.1) in h.2 0 (subst P {x = s.start + h.0} {y = get_or all h.0 0} (omega (arith, at h.0 i)) (p (s.start + h.0) (omega arith) (omega arith))))

-- the first number of a range that passes, by `find`
pub told_first : {F : Type 0} {g : Mut F (Bor ℕ × Unit {0}) Bool} (s u : Range ℕ) (f : F) (r : Option ℕ) (P : ℕ → Type 0)
    → (xs : List ℕ) × (j : F) × YieldsThen nat_range_steps s xs r u × FoldsTo (λ p x q. CalledAt g p x false q) f xs j × MatchOption r ⊤ (λ x. (h : F) × CalledAt g j x true h)
    → ((x : ℕ) (q : F) (b : Bool) → CalledAt g f x b q → (q ≡ f) × Told b (P x))
    → MatchOption r ((k : ℕ) → s.start ≤ k → k < s.end → ¬ P k) (λ i. (s.start ≤ i) × (i < s.end) × P i × ((k : ℕ) → s.start ≤ k → k < i → ¬ P k))
told_first s u f r P d each =
    first_from_Range s u f r P (λ x. ¬ P x) d (λ x q c. (each x q true c).1.so refl) (λ x q c. let e = each x q false c in (e.0, e.1.not_so refl))

-- what follows of each of the two cases
pub option_as : {A N M : Type 0} {P Q : A → Type 0} (o : Option A) → (N → M) → ((x : A) → P x → Q x) → MatchOption o N P → MatchOption o M Q
option_as None n f h = n h
option_as (Some x) n f h = f x h

-- some number passes, by `any`
pub some_any : {F : Type 0} {g : Mut F (ℕ × Unit {0}) Bool} (s u : Range ℕ) (f : F) (r : Bool) (P : ℕ → Type 0)
    → (xs : List ℕ) × (o : Option ℕ) × (j : F) × YieldsThen nat_range_steps s xs o u × FoldsTo (λ p x q. Called g p (x, tt) false q) f xs j × MatchOption o (r ≡ false) (λ x. (r ≡ true) × ((h : F) × Called g j (x, tt) true h))
    → ((x : ℕ) (q : F) (b : Bool) → Called g f (x, tt) b q → (q ≡ f) × (b ≡ true → P x)) → r ≡ true → (k : ℕ) × P k
some_any s u f r P d each =
    by r (cases_from_any u f r P (λ x. Unit {0}) d (YieldsList-from_range s.start s.end _ refl refl) (λ x q c. (each x q true c).1 refl) (λ x q c. ((each x q false c).0, tt)))
  where
    all : List ℕ
    all = range_with_len s.start (s.end - s.start)

    by : (b : Bool) → MatchBool b ((k : ℕ) × (k < length all) × HoldsAt P all k) (AllWithin (λ x. Unit {0}) all 0 (length all)) → b ≡ true → (k : ℕ) × P k
    by true h e = (get_or all h.0 0, h.2 0)
    by false h e = absurd (false≢true e)
