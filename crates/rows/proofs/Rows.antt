-- The starred rows, as one theorem: a test that computes over the whole table of rows, from the bytes on, and the lemma that a row that
-- passes it is true.
use mathlib.Core.List.Memᴰ
use mathlib.Core.{Bool.Bool, Bool.true, Bool.false, Bool.false≢true, Path.◌≡◌, Path.refl, Path.sym, Path.◌∙◌, List.List, List.[], List.◌∷◌, List.◌++◌, List.flat_map}
use Prim.Native.Nat.{ℕ, ◌-◌}
use lib.{ListN.length, ListN.get_or, Dec.eqb, Dec.leb}
use borrow.Author.Tests.{eqb-true, leb-true}
use Rattle.semantics.specs.{Lists.◌among◌, Lists.member, Lists.digits, Lists.digits_of, Heap.heap_values, Heap.whole_of}
use Rattle.semantics.specs.Reader.{Result, accepted, refused, times, counted, word}
use Rattle.semantics.specs.Formats.{read_rule_set, read_snapshot, records, read_query, Input, ladder, WellFormedInput}
use Rattle.semantics.specs.Domain.{first_outside, spares, insert, ascending, most_variables, domain}
use Rattle.semantics.specs.{Fact.position, Fact.code, Fact.fact, Rounds.After, Contract.domain_of, Contract.FitsInput, Contract.CompletedInput}
use Rattle.rows.specs.Rows.{Row, RowTrue, Verdict, LinesShown, LastShown, rows, constant_rows, mark_rows}
use Rattle.semantics.proofs.{DomainFacts.member_true, DomainFacts.member_out, Verdict.verdict, Verdict.fits_whole, FormatsFacts.ladder_read}
use Rattle.semantics.proofs.Evaluator.{when, both, every, same_list, same_record, assignments, compares, meets_all, finds, takings, answers, callings, joined, by_facts, by_records, by_test, by_values, by_arguments, by_rule, steps, following, drop_known, new_facts, run, Run}
use Rattle.semantics.proofs.Evaluation.{both_out, every_out, Done, run_done}
use Rattle.semantics.proofs.LineCount.{ways, leave, is_empty, is_some, avoids, exactly, line_count}
use Rattle.semantics.proofs.Existence.{trimmed_exists}

same_bool : Bool → Bool → Bool
same_bool true b = b
same_bool false b = elim b [ true ↦ false | false ↦ true ]

same_bool_out : (a b : Bool) → same_bool a b ≡ true → a ≡ b
unfolding same_bool
same_bool_out true b e = sym e
same_bool_out false true e = absurd (false≢true e)
same_bool_out false false e = refl

abbrev asked : Input → ℕ
asked i = fact (domain_of i) i.predicate i.values (whole_of i.heap)

-- nine rounds are enough for these rows
result : Input → Run
result i = run i.rule_set i.heap (domain_of i) 9 0 []

test_lines : Bool → ℕ → Input → List ℕ → Bool
test_lines true lines i table = both (leb (length table) 65535) (exactly (steps i.rule_set i.heap (domain_of i) table) lines (asked i ∷ []) [])
test_lines false lines i table = eqb lines 0

test_last : List ℕ → List ℕ → Bool
test_last [] table = true
test_last (f ∷ fs) table = eqb (get_or table (length table - 1) 0) f

test_run : Row → Input → Run → Bool
test_run row i r =
    every (λ (b : Bool). b)
    (r.finished ∷ eqb r.rounds row.rounds ∷ eqb (length r.table) row.facts ∷ same_bool (member (asked i) r.table) row.fits
    ∷ test_lines row.fits row.lines i r.table ∷ test_last row.last r.table ∷ [])

test_read : Row → Result Input → Bool
test_read row (accepted i) = test_run row i (result i)
test_read row (refused n) = false

passes : Row → Bool
passes row = test_read row (ladder row.book row.snapshot row.question)

lines_of : (b : Bool) (lines : ℕ) (i : Input) {r : ℕ} (table : List ℕ) → WellFormedInput i → Verdict b (FitsInput i) → CompletedInput i r table
    → test_lines b lines i table ≡ true → LinesShown b lines i
unfolding test_lines
lines_of true lines i table h fits c e =
    let (few, e') = both_out (leb (length table) 65535) (exactly (steps i.rule_set i.heap (domain_of i) table) lines (asked i ∷ []) []) e in (
      trimmed_exists i.rule_set i.heap i.predicate i.values (whole_of i.heap) h.valid (fits_whole fits) c.after c.complete (leb-true (length table) 65535 few),
      λ words u. line_count i.rule_set i.heap i.predicate i.values words u table c.complete lines e',
    )
lines_of false lines i table h fits c e = eqb-true lines 0 e

last_of : (fs table : List ℕ) → test_last fs table ≡ true → LastShown fs table
unfolding test_last
last_of [] table e = tt
last_of (f ∷ fs) table e = eqb-true (get_or table (length table - 1) 0) f e

verdict_of : (b : Bool) (f : ℕ) (table : List ℕ) (A : Type 0) → (f among table → A) → (A → f among table) → member f table ≡ b → Verdict b A
verdict_of true f table A to from e = to (member_out f table e)
verdict_of false f table A to from e = λ a. false≢true (sym e ∙ member_true f table (from a))

row_true : (row : Row) (i : Input) → ladder row.book row.snapshot row.question ≡ accepted i → test_run row i (result i) ≡ true → RowTrue row
unfolding test_run result every
row_true row i is_read e =
    let r = result i in
    let (fin, e₁) = both_out r.finished _ e in
    let (rs, e₂) = both_out (eqb r.rounds row.rounds) _ e₁ in
    let (fs, e₃) = both_out (eqb (length r.table) row.facts) _ e₂ in
    let (v, e₄) = both_out (same_bool (member (asked i) r.table) row.fits) _ e₃ in
    let (ls, e₅) = both_out (test_lines row.fits row.lines i r.table) _ e₄ in
    let (la, e₆) = both_out (test_last row.last r.table) _ e₅ in
    let h = ladder_read row.book row.snapshot row.question i is_read in
    let done : Done i.rule_set i.heap (domain_of i) r = run_done i.rule_set i.heap (domain_of i) 9 0 [] After.start fin in
    let q : r.rounds ≡ row.rounds = eqb-true r.rounds row.rounds rs in
    let c : CompletedInput i row.rounds r.table = record { after = rw q at done.after; complete = done.complete } in
    let iff = verdict i.rule_set i.heap i.values h.valid i.predicate h.counted done.after done.complete in
    let fits : Verdict row.fits (FitsInput i) =
    verdict_of row.fits (asked i) r.table (FitsInput i) iff.0 iff.1 (same_bool_out (member (asked i) r.table) row.fits v) in
    record {
      input = i;
      is_read = is_read;
      table = r.table;
      completed = c;
      facts_counted = eqb-true (length r.table) row.facts fs;
      verdict = fits;
      lines_shown = lines_of row.fits row.lines i r.table h fits c ls;
      last_shown = last_of row.last r.table la;
    }

passed : (row : Row) → passes row ≡ true → RowTrue row
unfolding passes test_read
passed row e = by (ladder row.book row.snapshot row.question) refl e
  where
    by : (r : Result Input) → ladder row.book row.snapshot row.question ≡ r → test_read row r ≡ true → RowTrue row
    by (accepted i) is_read t = row_true row i is_read t
    by (refused n) is_read t = absurd (false≢true t)

-- the nine tests and our own, computed
rows_pass : every passes (rows ++ (constant_rows ++ mark_rows)) ≡ true
unfolding digits digits_of heap_values member times counted word read_rule_set read_snapshot records read_query ladder first_outside spares insert ascending most_variables domain position code when both every same_list same_record assignments compares meets_all finds takings answers callings joined by_facts by_records by_test by_values by_arguments by_rule steps following drop_known new_facts run flat_map same_bool result test_run test_lines test_last test_read ways leave is_empty is_some avoids exactly passes
rows_pass = refl

-- Each starred row is true: verdict, facts, rounds, lines, and the last fact that the paper gives.
pub rows_true : (row : Row) → row among rows → RowTrue row
rows_true row m = passed row (every_out passes (rows ++ (constant_rows ++ mark_rows)) rows_pass row (Memᴰ.append_left (constant_rows ++ mark_rows) m))

-- So are those with constants, and those with the end mark.
pub constant_rows_true : (row : Row) → row among constant_rows → RowTrue row
constant_rows_true row m = passed row (every_out passes (rows ++ (constant_rows ++ mark_rows)) rows_pass row (Memᴰ.append_right rows (Memᴰ.append_left mark_rows m)))

pub mark_rows_true : (row : Row) → row among mark_rows → RowTrue row
mark_rows_true row m = passed row (every_out passes (rows ++ (constant_rows ++ mark_rows)) rows_pass row (Memᴰ.append_right rows (Memᴰ.append_right constant_rows m)))
