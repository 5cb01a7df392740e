-- The entry of a term: its seat, and what it is where the values follow the classes.
use mathlib.Core.{Path.◌≡◌, Path.refl, Path.sym, Path.ap, Path.◌∙◌, Logic.⊎_elim, List.List}
use Prim.Native.Nat.{ℕ, ◌+◌, ◌-◌, ◌≤◌, ◌<◌}
use native.Mathlib.{Omega.arith, Decide.dec_lt}
use borrow.Author.Tests.{lt-ltb, le-ltb}
use Rattle.block.specs.Ready.{TermByte}
use Rattle.finding.specs.Values.{open_entry}
use Rattle.plain.specs.Classes.{seat, entry_by, entries_of, Follows}

pub seat_shared : (shared v : ℕ) → v < shared → seat shared v ≡ v
seat_shared shared v h = rw (lt-ltb v shared h, seat) refl

pub seat_own : (shared v : ℕ) → shared ≤ v → seat shared v ≡ v + 8
seat_own shared v h = rw (le-ltb v shared h, seat) refl

pub seat_few : (shared v : ℕ) → v < 8 → seat shared v < 16
seat_few shared v h = step (dec_lt v shared)
  where
    step : Dec (v < shared) → seat shared v < 16
    step (yes l) = omega (arith, seat_shared shared v l)
    step (no l) = omega (arith, seat_own shared v (omega arith))

module _ (value : ℕ → ℕ) (shared : ℕ) (σ : ℕ → ℕ) (t : ℕ) where
  pub entry_variable : t < 128 → σ (seat shared t) ≡ entry_by value shared σ t
  entry_variable h = rw (lt-ltb t 128 h, entry_by) refl

  pub entry_shared : t < 128 → t < shared → σ t ≡ entry_by value shared σ t
  entry_shared h l = ap σ (sym (seat_shared shared t l)) ∙ entry_variable h

  pub entry_fixed : 128 ≤ t → value (t - 128) ≡ entry_by value shared σ t
  entry_fixed h = rw (le-ltb t 128 h, entry_by) refl

-- Fixed values are below the bound.
abbrev pub SmallByte : (ℕ → ℕ) → ℕ → ℕ → Type 0
SmallByte value n t = TermByte (λ b. value (b - 128) < open_entry) n t

-- Where the values follow, a term's value is the image of its entry.
pub entry_image : (value : ℕ → ℕ) (shared n t : ℕ) → n ≤ 8 → SmallByte value n t → (σ : ℕ → ℕ) (classes : List ℕ) (f : Follows σ classes)
    → entry_by value shared σ t ≡ f.image (entry_by value shared (entries_of classes) t)
entry_image value shared n t few byte σ classes f =
    ⊎_elim
    (λ l.
    sym (entry_variable value shared σ t (omega arith)) ∙ f.is (seat shared t) (seat_few shared t (omega arith))
    ∙ ap f.image (entry_variable value shared (entries_of classes) t (omega arith)))
    (λ e.
    sym (entry_fixed value shared σ t e.0) ∙ sym (f.fixes (value (t - 128)) e.1) ∙ ap f.image (entry_fixed value shared (entries_of classes) t e.0))
    byte
