-- The kind of a pure condition, and the number that stands for it in a block.
use Rattle.std.specs.Prelude.{ℕ, ◌≡◌, ◌≢◌}
use Rattle.block.specs.declared.Kind.{Kind}
use Rattle.block.specs.declared.Kind.TheVariants.{Equal, Unequal}

-- What the number says: 0 for equal, as `kind_in` has it.
abbrev pub IsKind : ℕ → Kind → Type 0
IsKind number Equal = number ≡ 0
IsKind number Unequal = number ≢ 0
