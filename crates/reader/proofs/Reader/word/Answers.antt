-- Four bytes, each of its own weight; or there are fewer.
use Rattle.std.proofs.Common.{rules, drop}
use Rattle.std.proofs.lemmas.List.{take_rest}
use Rattle.reader.specs.Unread.{unread}
use Rattle.reader.proofs.Words.{word_short, word_behind}
use Rattle.reader.proofs.Reader.word.Goals as goal

pub returns-in_default-clause-reads : goal.returns-in_default-clause-reads
unfolding unread
returns-in_default-clause-reads c =
    let r = c.args.self.now in
    let h = rw (take_rest r.bytes.now r.at) at c.in_default.ensures.cases in
    word_short c.args.short (drop r.at r.bytes.now) h

pub returns-clause-reads : goal.returns-clause-reads
unfolding unread
returns-clause-reads c =
    let r = c.args.self.now in
    let e = rw (take_rest r.bytes.now r.at) at c.in-Some.ensures.cases in
    word_behind _ r.bytes.now r.at e.same e.enough (search rules)
