-- Lists given by their entries.
use Rattle.std.specs.Prelude.{List, [], ◌∷◌, ℕ, zero, suc, ◌+◌, get_or}

-- f 0, f 1, .., f (n - 1)
unfoldable pub tabulate : {A : Type 0} → ℕ → (ℕ → A) → List A
tabulate zero f = []
tabulate (suc n) f = f 0 ∷ tabulate n (λ (i : ℕ). f (suc i))

-- The n entries from place `from` on.
abbrev pub entries : List ℕ → ℕ → ℕ → List ℕ
entries block from n = tabulate n (λ (i : ℕ). get_or block (from + i) 0)
