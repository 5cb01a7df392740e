-- A kind compared with one of the two, and what that says of its number.
use mathlib.Core.{Bool.true, Bool.false, Bool.false≢true, Path.◌≡◌, Path.sym, Logic.◌≢◌}
use Prim.Native.Nat.{ℕ}
use denote.Enum.Bare.{sameb}
use Rattle.block.specs.Kinds.{IsKind}
use Rattle.block.specs.contracts.Kind.{the_type}
use Rattle.block.specs.declared.Kind.{Kind}
use Rattle.block.specs.declared.Kind.TheVariants.{Equal, Unequal}

pub kind_equal : {number : ℕ} (kind : Kind) → IsKind number kind → (sameb the_type kind Equal ≡ true → number ≡ 0) × (sameb the_type kind Equal ≡ false → number ≢ 0)
kind_equal Equal h = (λ t. h, λ t. absurd (false≢true (sym t)))
kind_equal Unequal h = (λ t. absurd (false≢true t), λ t. h)

pub kind_unequal : {number : ℕ} (kind : Kind) → IsKind number kind → (sameb the_type kind Unequal ≡ true → number ≢ 0) × (sameb the_type kind Unequal ≡ false → number ≡ 0)
kind_unequal Equal h = (λ t. absurd (false≢true t), λ t. h)
kind_unequal Unequal h = (λ t. h, λ t. absurd (false≢true (sym t)))
