-- `overlap` merges the second rule's equalities into the classes of the first, and looks whether the other conditions allow the entries.
use mathlib.Core.{Bool.false≢true, Path.sym, Path.◌∙◌, List.List}
use Prim.Native.Nat.{ℕ}
use Rattle.block.specs.Layout.{fixed_in, pure_count}
use Rattle.words.proofs.Answers.{told_false, told_as}
use Rattle.plain.specs.Classes.{entries_of, UnequalsMet}
use Rattle.plain.proofs.{Merging.merged_done, Merging.merged_not, Overlapping.never_overlap, Overlapping.first_apart, Overlapping.second_apart, Overlapping.overlaps}
use Rattle.plain.proofs.excluding.overlap.Goals.{then-merge, else-merge}
use Rattle.plain.proofs.excluding.overlap.Goals as goal

-- the second rule's other conditions, by the entries
abbrev Second : (ℕ → ℕ) → List ℕ → ℕ → ℕ → List ℕ → Type 0
Second value rules other shared both = UnequalsMet value rules other shared (pure_count rules other) (entries_of both)

pub merge-requires : goal.merge-requires
merge-requires c = (c.requires.1, c.requires.2, c.requires.4)

pub returns-then-apart : goal.returns-then-apart
returns-then-apart c =
    let g = c.args in
    let arity = c.head_arity-shared.ensures.0 in
    let both = rw arity at c.merge.ensures.0 in
    elim c.if-merge.branch [
      | then-merge w ↦ told_as {P = Second (fixed_in g.given.now) g.rules.now g.other c.head_arity-shared.result c.merge.new.classes}
          (λ two. overlaps g.given.now g.rules.now g.rule g.other c.requires.0 c.requires.1 g.classes.now c.merge.new.classes c.requires.3 (merged_done w.if-merge.true both)
          (w.apart.ensures.so (sym w.value-is ∙ c.if-apart.true)) (rw arity at two))
          (λ o. rw arity (second_apart g.given.now g.rules.now g.rule g.other c.requires.0 c.requires.1 g.classes.now c.merge.new.classes c.requires.3 (merged_done w.if-merge.true both) o))
          c.apart-then-apart.ensures
      | else-merge w ↦ absurd (false≢true (sym w.if-merge.false ∙ sym w.value-is ∙ c.if-apart.true))
    ]

pub returns-else-apart : goal.returns-else-apart
returns-else-apart c =
    let g = c.args in
    let both = rw c.head_arity-shared.ensures.0 at c.merge.ensures.0 in
    rw c.if-apart.false
    (told_false (λ o.
    elim c.if-merge.branch [
      | then-merge w ↦ w.apart.ensures.not_so (sym w.value-is ∙ c.if-apart.false)
          (first_apart g.given.now g.rules.now g.rule g.other c.requires.0 c.requires.1 g.classes.now c.merge.new.classes c.requires.3 (merged_done w.if-merge.true both) o)
      | else-merge w ↦ never_overlap g.given.now g.rules.now g.rule g.other c.requires.0 c.requires.1 g.classes.now c.merge.new.classes c.requires.3 (merged_not w.if-merge.false both) o
    ]))
