-- Readers one after the other: what each yields makes what the chain yields, and a refusal on the way is the chain's.
use mathlib.Core.{Path.◌≡◌, Path.refl, Path.ap, Path.◌∙◌, List.List}
use Prim.Native.Nat.{ℕ}
use Rattle.std.specs.Prelude.{Result, Ok, Err}
use Rattle.semantics.specs.Reader.{Got, got, fault, Reader, onward, ◌>>=◌, give}
use Rattle.semantics.specs.declared.Refusal.{Refusal}
use Rattle.reader.specs.Outcome.{Yields, valued}

pub assoc : {A B C : Type 0} (r : Got A) (f : A → Reader B) (g : B → Reader C) → onward r (λ a. ◌>>=◌ (f a) g) ≡ onward (onward r f) g
assoc (got a rest) f g = refl
assoc (fault n) f g = refl

pub chain : {A B : Type 0} {s s₁ s₂ : List ℕ} {read : Reader A} {a : A} {r : Result B Refusal} (next : A → Reader B)
    → Yields read s s₁ (Ok a) → Yields (next a) s₁ s₂ r → Yields (◌>>=◌ read next) s s₂ r
chain {A} next h k = record { is = ap (λ (g : Got A). onward g next) h.is ∙ k.is }

pub stop : {A B : Type 0} {s s' : List ℕ} {read : Reader A} {e : Refusal} (next : A → Reader B) → Yields read s s' (Err e) → Yields (◌>>=◌ read next) s s' (Err e)
stop {A} next h = record { is = ap (λ (g : Got A). onward g next) h.is }

pub done : {A : Type 0} (s : List ℕ) (a : A) → Yields (give a) s s (Ok a)
done s a = record { is = refl }

-- the last of the readers, and what its value is put into
pub close : {A B C : Type 0} {s s' : List ℕ} {read : Reader A} (a : A) (r : Result C Refusal) (f : A → B)
    → Yields read s s' (valued r a) → Yields (◌>>=◌ read (λ x. give (f x))) s s' (valued r (f a))
close a (Ok c) f h = chain _ h (done _ _)
close a (Err e) f h = stop _ h

-- the same value, and the same reader
pub become : {A : Type 0} {s s' : List ℕ} {read : Reader A} {r r' : Result A Refusal} → r ≡ r' → Yields read s s' r → Yields read s s' r'
become e h = rw (← e) h

pub turn : {A : Type 0} {s s' : List ℕ} {read other : Reader A} {r : Result A Refusal} → read ≡ other → Yields read s s' r → Yields other s s' r
turn e h = rw e at h

pub alike : {A : Type 0} {s s' : List ℕ} {read : Reader A} {r : Result A Refusal} (other : Reader A) → ((bytes : List ℕ) → other bytes ≡ read bytes)
    → Yields read s s' r → Yields other s s' r
alike other same h = record { is = same _ ∙ h.is }
