-- At the end of the reading: what is left says what the definition says.
use mathlib.Core.{Path.◌≡◌, Path.refl, Path.ap, Path.◌∙◌, List.List, List.[], List.◌∷◌}
use Prim.Native.Nat.{ℕ, ◌<◌}
use lib.{ListN.length, ListN.drop, Seq.drop-cons}
use Rattle.std.specs.Prelude.{Result, Ok, Err, IsErrAnd}
use Rattle.semantics.specs.Numbered.{number_of}
use Rattle.semantics.specs.declared.Refusal.{Refusal}
use Rattle.semantics.specs.Reader.{Got, got, Reader, refused, all}
use Rattle.reader.specs.{Outcome.Yields, Answer.result_of, Answer.unless_more}

all_rest : {A : Type 0} (more : Refusal) (a : A) (rest : List ℕ) → all (number_of more) (got a rest) ≡ result_of (unless_more more rest) a
all_rest more a [] = refl
all_rest more a (b ∷ rest) = refl

pub finish_is : {A : Type 0} {bytes left : List ℕ} {a : A} (more : Refusal) (read : Reader A) → Yields read bytes left (Ok a)
    → all (number_of more) (read bytes) ≡ result_of (unless_more more left) a
finish_is {A} {left = left} {a} more read h = ap (λ (g : Got A). all (number_of more) g) h.is ∙ all_rest more a left

pub refused_is : {A : Type 0} {bytes left : List ℕ} {e : Refusal} (more : ℕ) (read : Reader A) → Yields read bytes left (Err e) → all more (read bytes) ≡ refused (number_of e)
refused_is {A} more read h = ap (λ (g : Got A). all more g) h.is

-- at the exit of a `?`
pub exit_is : {A : Type 0} {bytes left : List ℕ} {e : Refusal} (r : Result (Unit {0}) Refusal) (more : ℕ) (read : Reader A) (a : A) → IsErrAnd r (λ y. y ≡ e)
    → Yields read bytes left (Err e) → all more (read bytes) ≡ result_of r a
exit_is (Ok x) more read a i h = absurd i
exit_is (Err y) more read a i h = rw i (refused_is more read h)

-- a byte behind the place
pub more_left : (more : Refusal) (bytes : List ℕ) (at : ℕ) → at < length bytes → Err more ≡ unless_more more (drop at bytes)
more_left more bytes at h = rw (drop-cons bytes at 0) refl
