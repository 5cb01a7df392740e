-- The verdict from the walk of the query: fits, if the walk ends with every record marked.
use mathlib.Core.{Path.◌≡◌, Path.refl, Path.sym, Path.ap, Path.◌∙◌, Path.subst, List.List, Logic.◌≢◌}
use mathlib.Core.{Option.Option, Option.some, Option.none-ne-some, Option.some-injective}
use Prim.Native.Nat.{ℕ, ◌-◌, ◌^◌, ◌<◌}
use native.Mathlib.Omega.{arith}
use lib.ListN.{length, get_or, take}
use Rattle.std.specs.Prelude.{Option as Result, None, Some}
use Rattle.semantics.specs.{Lists.◌among◌, Reader.accepted, Refusals.book_not_plain, Walk.refusal_walk_reply, Formats.ladder, Formats.WellFormedInput, Plain.Plain, Walk.Walks, Heap.whole_of, WalkOutcome.WalkOutcome, declared.WalkReply.WalkReply}
use Rattle.semantics.proofs.{Coding.spot, FormatsFacts.ladder_values, WalkVerdict.Ends, WalkVerdict.outcome_walks}
use Rattle.block.specs.Layout.{input_in, rule_set_as, rule_set_read, fixed_in, constants_in, heap_in, rule_set_size, predicate_count, arity_in, record_count, query_predicate, query_values}
use Rattle.block.proofs.{HeapInBlock.heap_count, InputInBlock.valid, InputInBlock.constants_few, RuleAs.predicates_are, RuleAs.arity_is}
use Rattle.plain.specs.Plain.{ConstantsFit, RulesReadable}
use Rattle.walk.specs.Walk.{Readable, WalksFrom, arguments_in, answer}

below_all : (xs : List ℕ) → ((i : ℕ) → get_or xs i 0 < 256) → (x : ℕ) → x among xs → x < 256
below_all xs h x m = let (i, l, e) = spot 0 m in omega (arith, e, h i)

-- constants of four bytes are below the bound of values
pub constants_fit : (book snapshot question rules heap query : List ℕ) → ladder book snapshot question ≡ accepted (input_in rules heap query)
    → ((i : ℕ) → get_or book i 0 < 256) → ((i : ℕ) → get_or snapshot i 0 < 256) → ((i : ℕ) → get_or question i 0 < 256) → ConstantsFit query
unfolding input_in rule_set_as
constants_fit book snapshot question rules heap query e b s q v m =
    (ladder_values book snapshot question (below_all book b) (below_all snapshot s) (below_all question q) (input_in rules heap query) e).0 v m

module _ (rules heap query : List ℕ) (h : WellFormedInput (input_in rules heap query)) where
  pub rules_readable : ConstantsFit query → RulesReadable query rules
  rules_readable fit = record { formed = (valid rules heap query h).rules_formed; constants_few = constants_few rules heap query h; constants_fit = fit }

  pub readable : length rules ≡ rule_set_size → ConstantsFit query → Readable query rules heap
  readable long fit = record { rules_long = long; rules_read = rules_readable fit; heap_formed = (valid rules heap query h).heap_formed }

  -- a rule set that is not plain
  pub refuses : {r : WalkReply} → ¬ Plain (rule_set_read query rules) → r ≡ refusal_walk_reply book_not_plain → Walks (input_in rules heap query) r
  unfolding input_in
  refuses n e = Walks.not_plain n e

  pub named : query_predicate query < predicate_count rules
  unfolding input_in
  named = omega (arith, h.named, predicates_are (fixed_in query) (constants_in query) rules)

  counted : length (query_values query) ≡ arity_in rules (query_predicate query)
  unfolding input_in
  counted = h.counted ∙ arity_is (fixed_in query) (constants_in query) rules (query_predicate query) named

  module _ (plain : Plain (rule_set_read query rules)) {arguments : List ℕ} (given : take (length (query_values query)) arguments ≡ query_values query) {p : ℕ} (is-predicate : p ≡ query_predicate query)
      {r : Result ℕ} {fuel : ℕ} (walked : WalksFrom query rules heap fuel p arguments 0 r) (enough : 16 < fuel) where
    top : WalkOutcome (rule_set_read query rules) (heap_in heap) fuel (query_predicate query) (query_values query) 0 (answer r)
    top =
        subst (λ (vs : List ℕ). WalkOutcome (rule_set_read query rules) (heap_in heap) fuel (query_predicate query) vs 0 (answer r)) (ap (λ (n : ℕ). take n arguments) (sym counted) ∙ given)
        (subst (λ (q : ℕ). WalkOutcome (rule_set_read query rules) (heap_in heap) fuel q (arguments_in rules q arguments) 0 (answer r)) is-predicate walked.outcome)

    ends : {verdict : ℕ} → Ends (heap_in heap) (answer r) verdict → Walks (input_in rules heap query) (record { refusal = 0; verdict = verdict })
    unfolding input_in
    ends e = outcome_walks (input_in rules heap query) h plain fuel (omega (arith, h.valid.heap_formed.records_few)) top e

    pub verdict_fits : {mask : ℕ} → r ≡ Some mask → mask ≡ 2 ^ record_count heap - 1 → Walks (input_in rules heap query) (record { refusal = 0; verdict = 1 })
    verdict_fits e m = ends (Ends.whole (ap answer e ∙ ap {B = Option ℕ} some (m ∙ ap (λ (n : ℕ). 2 ^ n - 1) (sym (heap_count heap)))) refl)

    pub verdict_part : {mask : ℕ} → r ≡ Some mask → mask ≢ 2 ^ record_count heap - 1 → Walks (input_in rules heap query) (record { refusal = 0; verdict = 0 })
    verdict_part {mask} e n =
        ends
        (Ends.not_whole
        (λ q. n (some-injective mask (whole_of (heap_in heap)) (sym (ap answer e) ∙ q) ∙ ap (λ (k : ℕ). 2 ^ k - 1) (heap_count heap)))
        refl)

    pub verdict_none : r ≡ None → Walks (input_in rules heap query) (record { refusal = 0; verdict = 0 })
    verdict_none e = ends (Ends.not_whole (λ q. none-ne-some (whole_of (heap_in heap)) (sym (ap answer e) ∙ q)) refl)
