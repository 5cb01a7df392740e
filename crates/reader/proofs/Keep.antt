-- What a block keeps: after several steps, and after a refusal.
use mathlib.Core.{Path.◌≡◌, Path.refl, Path.◌∙◌, Logic.inl, Logic.inr, Logic.⊎_elim, List.List}
use Prim.Native.Nat.{ℕ, ◌+◌, ◌≤◌}
use native.Mathlib.Omega.{arith}
use Rattle.std.specs.Prelude.{Result, Ok, Err, IsErrAnd, OnOk}
use Rattle.semantics.specs.declared.Refusal.{Refusal}
use Rattle.reader.specs.{Outcome.Yields, Layout.Layout, Layout.KeptOutside, Layout.Fills, Layout.Gives}

pub kept_none : (from to : ℕ) (b : List ℕ) → KeptOutside from to b b
kept_none from to b = record { long = refl; same = λ i h. refl }

-- two steps, within one range
pub kept_both : {f t f₁ t₁ : ℕ} {b b₁ b₂ : List ℕ} (from to : ℕ) → KeptOutside f t b b₁ → KeptOutside f₁ t₁ b₁ b₂
    → (from ≤ f) × (t ≤ to) × (from ≤ f₁) × (t₁ ≤ to) → KeptOutside from to b b₂
kept_both from to h k fits = record {
  long = k.long ∙ h.long;
  same = λ i o. ⊎_elim (λ l. k.same i (inl (omega arith)) ∙ h.same i (inl (omega arith))) (λ l. k.same i (inr (omega arith)) ∙ h.same i (inr (omega arith))) o;
}

-- of an `Ok`, what holds anyway
pub on_ok : {A P : Type 0} (r : Result A Refusal) → P → OnOk r P
on_ok (Ok x) p = p
on_ok (Err e) p = tt

-- at the exit of a `?`
pub exit : {A B C : Type 0} {layout : Layout A} {at : ℕ} {s s' b b' : List ℕ} {e : Refusal} {r : Result C Refusal} → IsErrAnd r (λ y. y ≡ e)
    → Fills {B = B} layout at s s' b b' (Err e) → Fills layout at s s' b b' r
exit {r = Ok x} i h = absurd i
exit {r = Err y} i h = rw i (record { reads = h.reads; sized = tt; kept = h.kept })

pub exit_gives : {A B : Type 0} {layout : Layout A} {at : ℕ} {s s' b b' : List ℕ} {e : Refusal} {r : Result ℕ Refusal} → IsErrAnd r (λ y. y ≡ e)
    → Fills {B = B} layout at s s' b b' (Err e) → Gives layout at s s' b b' r
exit_gives {r = Ok x} i h = absurd i
exit_gives {r = Err y} i h = record { fills = exit i h; number = tt }

-- a refusal: the reader's, and what was written before it lies in its range
pub stops : {A B : Type 0} (layout : Layout A) {at : ℕ} {s s' b b' : List ℕ} {e : Refusal} → Yields layout.read s s' (Err e)
    → KeptOutside at (at + layout.width) b b' → Fills {B = B} layout at s s' b b' (Err e)
stops layout h k = record { reads = h; sized = tt; kept = k }
