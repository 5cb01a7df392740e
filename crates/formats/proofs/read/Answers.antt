-- The first of the three that refuses gives the refusal; where none does, the blocks hold what the ladder accepts.
use mathlib.Core.{Path.◌≡◌, Path.sym, Path.ap, Path.◌∙◌, List.List, List.◌∷◌}
use Prim.Native.Nat.{ℕ, ◌+◌, ◌≤◌, ◌<◌}
use native.Mathlib.Omega.{arith}
use borrow.Author.Rules.{rules}
use lib.ListN.{length, get_or}
use Rattle.std.specs.Prelude.{Result, Ok, Err, IsErrAnd}
use Rattle.semantics.specs.Numbered.{number_of}
use Rattle.semantics.specs.{Reader.accepted, Reader.refused, RuleSet.RuleSet, Formats.read_rule_set, Formats.read_snapshot, Formats.read_query, Formats.ladder}
use Rattle.semantics.specs.declared.Refusal.{Refusal}
use Rattle.block.specs.Layout.{rule_set_as, rule_set_read, heap_in, input_in, constant_count, constants_in, query_predicate, query_place, query_values, rule_set_size}
use Rattle.words.specs.Entries.{entries}
use Rattle.words.proofs.Tabulate.{tabulate_same}
use Rattle.reader.specs.Answer.{result_of}
use Rattle.book.specs.BookLayout.{arities_in}
use Rattle.formats.specs.Refusal.{query_in, Read}
use Rattle.formats.proofs.read.Goals as goal

-- the question leaves the constants where they were
rules_same : (rules q q' : List ℕ) → ((i : ℕ) → 2 ≤ i → i < query_place q → get_or q' i 0 ≡ get_or q i 0) → rule_set_read q rules ≡ rule_set_read q' rules
rules_same rules q q' kept = ap (λ (constants : List ℕ). rule_set_as (λ (k : ℕ). get_or (0 ∷ constants) k 0) constants rules) same
  where
    same : constants_in q ≡ constants_in q'
    same =
        tabulate_same (constant_count q) (λ (i : ℕ). get_or q (3 + i) 0) (λ (i : ℕ). get_or q' (3 + i) 0) (λ i h. sym (kept (3 + i) (omega arith) (omega arith)))
        ∙ ap (entries q' 3) (sym (kept 2 (omega arith) (omega arith)))

-- at the exit of a `?`
refuses : {book snapshot question rules heap query : List ℕ} (e : Refusal) {r : Result (Unit {0}) Refusal} → IsErrAnd r (λ y. y ≡ e)
    → ladder book snapshot question ≡ refused (number_of e) → length rules ≡ rule_set_size → Read book snapshot question rules heap query r
refuses e {r = Ok x} i h l = absurd i
refuses e {r = Err y} i h l = record { is = rw i h; long = l }

-- book and snapshot are read, and the question's answer is the ladder's
answered : (book snapshot question rules heap q query : List ℕ) (r : Result (Unit {0}) Refusal) → read_rule_set book ≡ accepted (rule_set_read q rules)
    → rule_set_read q rules ≡ rule_set_read query rules → read_snapshot snapshot ≡ accepted (heap_in heap) → read_query (arities_in rules) question ≡ result_of r (query_in query)
    → length rules ≡ rule_set_size → Read book snapshot question rules heap query r
unfolding ladder rule_set_as input_in
answered book snapshot question rules heap q query (Ok done) e s f g l =
    record { is = rw (e, f, g) (ap (λ (set : RuleSet). accepted (record { rule_set = set; heap = heap_in heap; predicate = query_predicate query; values = query_values query })) s); long = l }
answered book snapshot question rules heap q query (Err refusal) e s f g l = record { is = rw (e, f, g); long = l }

pub returns-in_err-read_rules : goal.returns-in_err-read_rules
unfolding ladder
returns-in_err-read_rules c =
    let book = c.in_err-read_rules.ensures in
    refuses c.in_err-read_rules.field-0.0 c.from_residual.ensures.1 (rw book.is) (book.long ∙ search rules)

pub returns-in_err-read_heap : goal.returns-in_err-read_heap
unfolding ladder
returns-in_err-read_heap c =
    let book = c.in_ok-read_rules.ensures in
    refuses c.in_err-read_heap.field-0.0 c.from_residual-in_err-read_heap.ensures.1 (rw (book.is, c.in_err-read_heap.ensures.is)) (book.long ∙ search rules)

pub returns : goal.returns
returns c =
    let book = c.in_ok-read_rules.ensures in
    let question = c.read_query.ensures in
    answered c.args.book.now c.args.snapshot.now c.args.question.now c.read_rules.new.block c.read_heap.new.heap c.read_rules.new.query c.read_query.new.query c.read_query.result
    book.is (rules_same c.read_rules.new.block c.read_rules.new.query c.read_query.new.query question.kept) c.in_ok-read_heap.ensures.is question.is (book.long ∙ search rules)
