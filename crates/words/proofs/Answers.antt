-- A test's answer: where the fact is known, by a comparison of two numbers, and the same to an equivalent question.
use mathlib.Core.{Bool.Bool, Bool.true, Bool.false, Bool.false≢true, Bool.not, Path.◌≡◌, Path.sym, Logic.◌≢◌}
use Prim.Native.Nat.{ℕ}
use lib.Dec.{eqb}
use borrow.Author.Tests.{eqb-true, eqb-false, not-true, not-false}
use Rattle.words.specs.Told.{Told}

pub told_true : {P : Type 0} → P → Told true P
told_true p = record { so = λ _. p; not_so = λ e. absurd (false≢true (sym e)) }

pub told_false : {P : Type 0} → ¬ P → Told false P
told_false n = record { so = λ e. absurd (false≢true e); not_so = λ _. n }

pub told_equal : {P : Type 0} (a b : ℕ) → (a ≡ b → P) → (P → a ≡ b) → Told (eqb a b) P
told_equal a b f g = record { so = λ e. f (eqb-true a b e); not_so = λ e p. eqb-false a b e (g p) }

-- the same answer to an equivalent question
pub told_as : {r : Bool} {P Q : Type 0} → (P → Q) → (Q → P) → Told r P → Told r Q
told_as f g t = record { so = λ e. f (t.so e); not_so = λ e q. t.not_so e (g q) }

pub told_unequal : (a b : ℕ) → Told (not (eqb a b)) (a ≢ b)
told_unequal a b = record { so = λ e. eqb-false a b (not-true (eqb a b) e); not_so = λ e n. n (eqb-true a b (not-false (eqb a b) e)) }
