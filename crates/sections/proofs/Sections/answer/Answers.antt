-- The house book stands for an empty one, and any other book for itself.
use Rattle.std.proofs.Common.{◌≡◌, true, false, List, [], ◌∷◌, ℕ, length, arith, refl, ◌==◌}
use Rattle.std.proofs.lemmas.Bool.Decides.{nat_tests}
use Rattle.semantics.specs.Contract.{book_or, house}
use Rattle.sections.proofs.Sections.answer.Goals as goal

for_none : (book : List ℕ) → true ≡ (length book == 0) → book_or book ≡ house
for_none [] e = refl
for_none (b ∷ book) e = absurd (grind (arith, nat_tests))

for_some : (book : List ℕ) → false ≡ (length book == 0) → book_or book ≡ book
for_some [] e = absurd cc
for_some (b ∷ book) e = refl

pub returns-then-is_empty : goal.returns-then-is_empty
returns-then-is_empty c = rw (for_none c.args.self.now.book.now cc) (rw c.house-house.ensures at c.decide.ensures)

pub returns : goal.returns
returns c = rw (for_some c.args.self.now.book.now cc) c.decide-2.ensures
