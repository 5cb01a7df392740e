-- What a line's words say: a variable beyond the word's eight, the head's arguments, and a fact from its four positions.
use mathlib.Core.{Path.◌≡◌, Path.refl, Path.sym, List.List, List.[], List.◌∷◌}
use Prim.Native.Nat.{ℕ, ◌≤◌, ◌<◌}
use native.Mathlib.Omega.{arith}
use lib.{ListN.length, ListN.get_or, ListN.take, ListN.length-take, ListN.get_or-eq_default, Seq.get_or-take}
use Rattle.semantics.specs.{Fact.code, Lists.digits}
use Rattle.semantics.proofs.Digits.{digits_of-length}
use Rattle.words.specs.Entries.{tabulate, entries}
use Rattle.certificate.specs.Line.{given_by}

-- a variable beyond the word's eight has no position
pub variable_beyond : (word v : ℕ) → 8 ≤ v → 0 ≡ get_or (given_by word) v 0
variable_beyond word v h = sym (get_or-eq_default (given_by word) 0 (omega (arith, digits_of-length 256 8 word)))

-- the arguments of the head, which are its first variables
pub head_at : (word arity j : ℕ) → j < arity → get_or (given_by word) j 0 ≡ get_or (take arity (given_by word)) j 0
head_at word arity j h = sym (get_or-take arity (given_by word) j 0 h)

pub head_past : (word arity j : ℕ) → arity ≤ j → 0 ≡ get_or (take arity (given_by word)) j 0
head_past word arity j h = sym (get_or-eq_default (take arity (given_by word)) 0 (omega (arith, length-take arity (given_by word))))

-- ---- a fact from its four positions

four-entries : (base : ℕ) (ps : List ℕ) → length ps ≤ 4 → digits base (get_or ps 0 0 ∷ get_or ps 1 0 ∷ get_or ps 2 0 ∷ get_or ps 3 0 ∷ []) ≡ digits base ps
unfolding digits
four-entries base [] h = omega arith
four-entries base (a ∷ []) h = omega arith
four-entries base (a ∷ (b ∷ [])) h = omega arith
four-entries base (a ∷ (b ∷ (c ∷ []))) h = omega arith
four-entries base (a ∷ (b ∷ (c ∷ (d ∷ [])))) h = refl
four-entries base (a ∷ (b ∷ (c ∷ (d ∷ (e ∷ ps))))) h = absurd (omega arith)

pub code-four : (p q part : ℕ) (xs ps : List ℕ) → p ≡ q → length ps ≤ 4 → get_or xs 0 0 ≡ get_or ps 0 0 → get_or xs 1 0 ≡ get_or ps 1 0 → get_or xs 2 0 ≡ get_or ps 2 0
    → get_or xs 3 0 ≡ get_or ps 3 0 → code p (entries xs 0 4) part ≡ code q ps part
unfolding code tabulate
code-four p q part xs ps e h a b c d = omega (arith, rw (← a, ← b, ← c, ← d) at (four-entries 128 ps h))
