-- `position` reads a term by its byte: below 128 a variable's, from there on a fixed position's.
use mathlib.Core.Path.{◌∙◌}
use Rattle.block.proofs.TermsInBlock.{term_variable, term_fixed}
use Rattle.certificate.specs.Line.{given_by}
use Rattle.certificate.proofs.rule.position.Goals as goal

pub returns-then-term-lt128 : goal.returns-then-term-lt128
returns-then-term-lt128 c = c.variable.ensures ∙ term_variable (λ v. v) (given_by c.args.word) c.args.term c.if-term-lt128.true

pub returns-else-term-lt128 : goal.returns-else-term-lt128
returns-else-term-lt128 c = term_fixed (λ v. v) (given_by c.args.word) c.args.term c.if-term-lt128.false
