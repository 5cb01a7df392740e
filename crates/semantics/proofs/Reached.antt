-- There is always a complete table; it has no fact twice; and "more facts than n" is that its length is above n.
use mathlib.Core.{Path.◌≡◌, Logic.◌↔◌, Logic.by_cases, List.List}
use Prim.Native.Nat.{ℕ, ◌<◌}
use native.Mathlib.{Omega.arith, Decide.dec_lt}
use lib.ListN.{length}
use Rattle.semantics.specs.{Heap.whole_of, Formats.Input, Formats.WellFormedInput, Fact.fact}
use Rattle.semantics.specs.Contract.{domain_of, FitsInput, MoreFactsThan, CompletedInput}
use Rattle.semantics.proofs.{Bits.dec_in, Pigeon.pigeon, FixedPoint.table_holds, FixedPoint.complete_has, FixedPoint.complete_unique, Verdict.verdict}
use Rattle.semantics.proofs.Termination.{completed, table_distinct}

pub completed_exists : (i : Input) → WellFormedInput i → (rounds : ℕ) × (facts : List ℕ) × CompletedInput i rounds facts
completed_exists i h =
    completed i.rule_set i.heap i.values h.valid

pub completed_unique : (i : Input) {r s : ℕ} {xs ys : List ℕ} → CompletedInput i r xs → CompletedInput i s ys → (r ≡ s) × (xs ≡ ys)
completed_unique i a b = complete_unique i.rule_set i.heap (domain_of i) a.after a.complete b.after b.complete

-- 11 is exact: more facts than n exactly if the complete table is longer than n
pub more_facts : (i : Input) {r : ℕ} {xs : List ℕ} → CompletedInput i r xs → (n : ℕ) → MoreFactsThan i n ↔ (n < length xs)
more_facts i {xs} c n = (to, from)
  where
    to : MoreFactsThan i n → n < length xs
    to m =
        by_cases (dec_lt (length xs) (length m.witnesses))
        (λ l.
        let p = pigeon m.witnesses xs m.distinct l in
        absurd (p.2 (complete_has i.rule_set i.heap (domain_of i) c.complete p.0 (m.each p.0 p.1))))
        (λ l. omega (arith, m.many))

    from : n < length xs → MoreFactsThan i n
    from l = record {
      witnesses = xs;
      distinct = table_distinct c.after;
      many = l;
      each = table_holds i.rule_set i.heap (domain_of i) c.after;
    }

-- the query is decided
pub fits_decided : (i : Input) → WellFormedInput i → Dec (FitsInput i)
fits_decided i h =
    let (r, xs, c) = completed_exists i h in
    let v = verdict i.rule_set i.heap i.values h.valid i.predicate h.counted c.after c.complete in
    by_cases (dec_in (fact (domain_of i) i.predicate i.values (whole_of i.heap)) xs) (λ m. yes (v.0 m)) (λ n. no (λ k. n (v.1 k)))
