-- `renamed` meets its contract: each of the three called places is replaced by its line's number, and the rule's number stays.
use mathlib.Core.Path.{◌∙◌}
use Rattle.builder.proofs.Marks.{renamed_is}
use Rattle.builder.proofs.marked.renamed.Goals as goal

pub returns : goal.returns
returns c =
    let a = c.args in
    c.rule_word.ensures
    ∙ renamed_is a.space.now a.names c.rule_of.ensures c.line_of-first.ensures c.called_of.ensures c.line_of-second.ensures c.called_of-2.ensures c.line_of-third.ensures c.called_of-3.ensures
