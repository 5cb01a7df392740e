-- `head_argument` reads argument j of a head, whose arguments are its first variables.
use mathlib.Core.Path.{◌∙◌}
use Rattle.certificate.proofs.Reading.{head_at, head_past}
use Rattle.certificate.proofs.rule.head_argument.Goals as goal

pub returns-then-j-count : goal.returns-then-j-count
returns-then-j-count c = let g = c.args in c.variable_of.ensures ∙ head_at g.word g.count g.j c.if-j-count.true

pub returns-else-j-count : goal.returns-else-j-count
returns-else-j-count c = let g = c.args in head_past g.word g.count g.j c.if-j-count.false
