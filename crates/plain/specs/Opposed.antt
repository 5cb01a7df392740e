-- Rules that are told apart at a glance, before any classes are made.
use mathlib.Core.{Bool.Bool, Bool.true, Bool.false, List.List, Path.◌≡◌, Logic.◌≢◌, Logic.◌⊎◌}
use Rattle.std.specs.Prelude.{ℕ, ◌≤◌, ◌<◌}
use Rattle.block.specs.Layout.{head_in, head_arity, pure_count, pure_kind, pure_left, pure_right}

-- The byte names one of so many arguments or a fixed value.
abbrev pub Shared : ℕ → ℕ → Type 0
Shared arity t = (t < arity) ⊎ (128 ≤ t)

-- Only one of the conditions k of two rules is an equality.
abbrev pub KindsDiffer : List ℕ → ℕ → ℕ → ℕ → Type 0
KindsDiffer rules at other k = ((pure_kind rules at k ≡ 0) × (pure_kind rules other k ≢ 0)) ⊎ ((pure_kind rules at k ≢ 0) × (pure_kind rules other k ≡ 0))

-- They have the same terms, in either order.
abbrev pub SameTerms : List ℕ → ℕ → ℕ → ℕ → Type 0
SameTerms rules at other k =
    ((pure_left rules at k ≡ pure_left rules other k) × (pure_right rules at k ≡ pure_right rules other k))
    ⊎ ((pure_left rules at k ≡ pure_right rules other k) × (pure_right rules at k ≡ pure_left rules other k))

-- They have the same terms, which both rules share, and only one of them is an equality.
pub record Opposed (rules : List ℕ) (at other k : ℕ) : Type 0 where
  pub some : k < pure_count rules at
  pub some_other : k < pure_count rules other
  pub terms : SameTerms rules at other k
  pub left_shared : Shared (head_arity rules at) (pure_left rules at k)
  pub right_shared : Shared (head_arity rules at) (pure_right rules at k)
  pub kinds : KindsDiffer rules at other k

-- What a glance tells of two rules.
pub data Parted (rules : List ℕ) (at other : ℕ) (told : Bool) : Type 0 where
  heads : told ≡ true → head_in rules at ≢ head_in rules other → Parted rules at other told
  opposed : told ≡ true → (k : ℕ) → Opposed rules at other k → Parted rules at other told
  unknown : told ≡ false → head_in rules at ≡ head_in rules other → Parted rules at other told
