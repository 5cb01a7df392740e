-- The name, the count and the values make the query, and then nothing may be left.
use native.Mathlib.Omega.{arith}
use mathlib.Core.Path.{◌≡◌, refl}
use Prim.Native.Nat.{◌+◌}
use Rattle.semantics.specs.Refusals.{question_mismatch}
use Rattle.semantics.specs.Formats.{query, read_query}
use Rattle.semantics.specs.declared.Refusal.TheVariants.{QuestionMismatch}
use Rattle.block.specs.Layout.{query_place}
use Rattle.book.specs.BookLayout.{arities_in}
use Rattle.reader.proofs.Finishing.{finish_is, exit_is}
use Rattle.formats.proofs.QueryParts.{no_name, no_count, query_fills, query_kept, query_long}
use Rattle.formats.proofs.question.read_query.Goals as goal

pub returns-in_err-predicate : goal.returns-in_err-predicate
unfolding read_query
returns-in_err-predicate c =
    let name = rw c.new-reader.ensures at c.in_err-predicate.ensures in
    record {
      is = exit_is c.from_residual.result question_mismatch (query (arities_in c.args.rules.now)) _ c.from_residual.ensures.1 (no_name c.args.rules.now name);
      kept = λ i l h. refl;
      long = refl;
    }

pub returns-in_err-count : goal.returns-in_err-count
unfolding read_query
returns-in_err-count c =
    let name = rw c.new-reader.ensures at c.in_ok-predicate.ensures in
    let count = rw c.from.ensures at c.in_err-count.ensures in
    record {
      is = exit_is c.from_residual-in_err-count.result question_mismatch (query (arities_in c.args.rules.now)) _ c.from_residual-in_err-count.ensures.1 (no_count c.args.rules.now name count);
      kept = λ i l h. refl;
      long = refl;
    }

pub returns-in_err-values : goal.returns-in_err-values
unfolding read_query
returns-in_err-values c =
    let q = c.args.query.now in
    let name = rw c.new-reader.ensures at c.in_ok-predicate.ensures in
    let count = rw c.from.ensures at c.in_ok-count.ensures in
    let values = rw (c.from-2.ensures, c.from-3.ensures, c.from-4.ensures) at c.in_err-values.ensures in
    let first : 3 + c.constant_count-first.result ≡ query_place q = omega (arith, c.constant_count-first.ensures) in
    record {
      is =
          exit_is c.from_residual-in_err-values.result question_mismatch (query (arities_in c.args.rules.now)) _ c.from_residual-in_err-values.ensures.1
          (query_fills q _ _ c.requires.2 first values c.args.rules.now name count);
      kept = query_kept q _ _ c.requires.2 first values;
      long = query_long q _ _ c.requires.2 first values;
    }

pub returns : goal.returns
unfolding read_query
returns c =
    let q = c.args.query.now in
    let name = rw c.new-reader.ensures at c.in_ok-predicate.ensures in
    let count = rw c.from.ensures at c.in_ok-count.ensures in
    let values = rw (c.from-2.ensures, c.from-3.ensures, c.from-4.ensures) at c.in_ok-values.ensures in
    let first : 3 + c.constant_count-first.result ≡ query_place q = omega (arith, c.constant_count-first.ensures) in
    record {
      is = rw c.finish.ensures (finish_is QuestionMismatch (query (arities_in c.args.rules.now)) (query_fills q _ _ c.requires.2 first values c.args.rules.now name count));
      kept = query_kept q _ _ c.requires.2 first values;
      long = query_long q _ _ c.requires.2 first values;
    }
