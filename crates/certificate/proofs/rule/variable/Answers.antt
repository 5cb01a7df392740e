-- `variable` reads a digit of the word; a variable beyond the eighth has none.
use mathlib.Core.Path.{◌∙◌, ap}
use Prim.Native.Nat.{ℕ}
use lib.ListN.{get_or}
use Rattle.certificate.specs.Line.{given_by}
use Rattle.certificate.proofs.Reading.{variable_beyond}
use Rattle.certificate.proofs.rule.variable.Goals as goal

pub returns-then-v-lt8 : goal.returns-then-v-lt8
returns-then-v-lt8 c = c.variable_of.ensures ∙ ap (λ (v : ℕ). get_or (given_by c.args.word) v 0) c.from.ensures

pub returns-else-v-lt8 : goal.returns-else-v-lt8
returns-else-v-lt8 c = variable_beyond c.args.word c.args.v c.if-v-lt8.false
