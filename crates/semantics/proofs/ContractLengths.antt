-- The facts and the lines that are written fit into what is lent.
use mathlib.Core.{Path.◌≡◌, Path.refl, Path.sym, Path.ap, Logic.◌≢◌, Logic.⊎_elim}
use mathlib.Core.List.Memᴰ
use mathlib.Core.List.{List, [], ◌∷◌}
use Prim.Native.Nat.{ℕ, zero, suc, ◌-◌, ◌≤◌, ◌<◌}
use native.Mathlib.Omega.{arith}
use lib.ListN.{length, length-append, length-replicate}
use Rattle.semantics.specs.{Lists.◌among◌, Lists.Distinct, Lists.zeros, Formats.Input, Certificate.fact_at}
use Rattle.semantics.specs.Contract.{domain_of, TrimmedPart, CompletedInput, padded}
use Rattle.semantics.proofs.FixedPoint.{line_holds, holding_counted}

facts_to : List ℕ → ℕ → List ℕ
facts_to words zero = []
facts_to words (suc n) = fact_at words (suc n) ∷ facts_to words n

to_length : (words : List ℕ) (n : ℕ) → length (facts_to words n) ≡ n
unfolding facts_to
to_length words zero = refl
to_length words (suc n) = ap suc (to_length words n)

to_member : (words : List ℕ) (n f : ℕ) → f among facts_to words n → (k : ℕ) × (1 ≤ k) × (k ≤ n) × (f ≡ fact_at words k)
unfolding facts_to
to_member words zero f m = absurd (Memᴰ.not-nil m)
to_member words (suc n) f m =
    ⊎_elim (λ e. (suc n, omega arith, omega arith, e)) (λ i. let (k, a, b, e) = to_member words n f i in (k, a, omega arith, e)) (Memᴰ.cases_cons m)

to_distinct : (words : List ℕ) (n : ℕ) → ((j k : ℕ) → 1 ≤ j → j < k → k ≤ n → fact_at words j ≢ fact_at words k) → Distinct (facts_to words n)
unfolding facts_to
to_distinct words zero once = Distinct.none
to_distinct words (suc n) once =
    Distinct.next (λ m. let (k, a, b, e) = to_member words n (fact_at words (suc n)) m in once k (suc n) a (omega arith) (omega arith) (sym e))
    (to_distinct words n (λ j k a b c. once j k a b (omega arith)))

pub lines_fit : (i : Input) {part : ℕ} (words : List ℕ) (u : TrimmedPart i part words) {r : ℕ} {facts : List ℕ} → CompletedInput i r facts → u.taken.count ≤ length facts
lines_fit i words u c =
    omega (
      arith,
      to_length words u.taken.count,
      holding_counted i.rule_set i.heap (domain_of i) c.complete (facts_to words u.taken.count) (to_distinct words u.taken.count u.once)
          (λ f m. let (k, a, b, e) = to_member words u.taken.count f m in rw e (line_holds i.rule_set i.heap (domain_of i) u.taken k k (omega arith) a b)),
    )

pub padded-length : (n : ℕ) (xs : List ℕ) → length xs ≤ n → length (padded n xs) ≡ n
padded-length n xs l = omega (arith, length-append xs (zeros (n - length xs)), length-replicate {A = ℕ} (n - length xs) 0)
