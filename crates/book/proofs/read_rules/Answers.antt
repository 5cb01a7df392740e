-- The rule set is read from the start, and then nothing may be left.
use native.Mathlib.Omega.{arith}
use lib.{ListN.length-set, Seq.get_or-set_same}
use Rattle.semantics.specs.Refusals.{book_longer}
use Rattle.semantics.specs.Formats.{rule_set, read_rule_set}
use Rattle.semantics.specs.declared.Refusal.TheVariants.{BookLonger}
use Rattle.reader.proofs.Finishing.{finish_is, refused_is}
use Rattle.book.proofs.Heading.{header_one}
use Rattle.book.proofs.read_rules.Goals as goal

pub returns-in-Err : goal.returns-in-Err
unfolding read_rule_set
returns-in-Err c =
    let e = rw c.new-reader.ensures at c.in-Err.ensures in
    record {
      is = refused_is book_longer rule_set e.reads;
      header = header_one c.rule_set.new.block (omega (arith, c.requires, e.long));
      constants_few = omega (arith, e.query_long, get_or-set_same c.rule_set.new.query 2 0 0 (omega (arith, e.query_long)));
      long = simp length-set e.long;
      query_long = simp length-set e.query_long;
    }

pub returns : goal.returns
unfolding read_rule_set
returns c =
    let e = rw c.new-reader.ensures at c.in_default.ensures in
    record { is = rw c.finish.ensures (finish_is BookLonger rule_set e.reads); header = e.header; constants_few = e.constants_few; long = e.long; query_long = e.query_long }
