-- `parted` compares the predicates, and then condition after condition. The way there is of no use: only a yes says anything.
use mathlib.Core.{Bool.Bool, Bool.true, Bool.false, List.List, Path.◌≡◌, Path.refl, Path.sym, Path.◌∙◌}
use Prim.Native.Nat.{ℕ}
use Rattle.std.proofs.Common.{rules}
use Rattle.block.specs.Layout.{head_in}
use Rattle.words.proofs.Ranges.{some_any}
use Rattle.plain.specs.Opposed.{Opposed, Parted}
use Rattle.plain.proofs.excluding.parted.Goals as goal

glance : (rules : List ℕ) (at other : ℕ) (told : Bool) → head_in rules at ≡ head_in rules other → (told ≡ true → (k : ℕ) × Opposed rules at other k) → Parted rules at other told
glance rules at other true same some = let (k, o) = some refl in Parted.opposed refl k o
glance rules at other false same some = Parted.unknown refl same

pub returns-else-head : goal.returns-else-head
returns-else-head c =
    let g = c.args in
    glance g.rules.now g.rule g.other c.any.result (sym c.head.ensures ∙ c.if-head.false ∙ c.head-2.ensures)
    (some_any _ _ _ _ (λ (k : ℕ). Opposed g.rules.now g.rule g.other k) c.any.ensures.ran (λ x q b k. (search rules, search rules)))
