-- `excludes` takes a glance at the two rules, and then asks whether they overlap.
use borrow.Author.Tests.{not-true, not-false}
use Rattle.words.proofs.Answers.{told_true}
use Rattle.plain.proofs.Exclusion.{excluded, not_excluded, parted_excluded, not_parted}
use Rattle.plain.proofs.excluding.excludes.Goals as goal

pub parted-requires : goal.parted-requires
parted-requires c = (c.requires.1.formed.inside, c.requires.2.formed.inside, c.requires.1.formed.ready.pures_few)

pub overlap-requires : goal.overlap-requires
overlap-requires c = (c.requires.1.formed, c.requires.2.formed, c.requires.0.constants_few, c.requires.3, c.requires.4)

pub returns-then-parted : goal.returns-then-parted
returns-then-parted c =
    rw c.if-parted.true (told_true (parted_excluded c.requires.0 c.requires.1 c.requires.2 c.parted.ensures c.if-parted.true))

pub returns-else-parted : goal.returns-else-parted
returns-else-parted c =
    let same = not_parted c.requires.0 c.requires.1 c.requires.2 c.parted.ensures c.if-parted.false in
    record {
      so = λ e. excluded c.requires.0 c.requires.1 c.requires.2 (c.overlap.ensures.not_so (not-true c.overlap.result e));
      not_so = λ e. not_excluded c.requires.0 c.requires.1 c.requires.2 same (c.overlap.ensures.so (not-false c.overlap.result e));
    }
