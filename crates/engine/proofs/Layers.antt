-- The table after the rounds: its facts come round by round, each from those of earlier rounds, as the builder of certificates asks.
use mathlib.Core.{Path.sym, Path.◌∙◌, Logic.◌≢◌, List.List}
use Prim.Native.Nat.{ℕ, ◌<◌}
use native.Mathlib.Omega.{arith}
use lib.{ListN.get_or, ListN.take, Seq.get_or-take, Seq.length-take-le}
use Rattle.semantics.specs.{Lists.◌among◌, Lists.Ascending, RuleSet.RuleSet, Heap.Heap}
use Rattle.semantics.proofs.{FixedPoint.follows_more, Coding.ascending_at}
use Rattle.table.specs.{Table.facts_in, Table.Tagged, Layered.code_at, Layered.EarlierFact, Layered.Layered}
use Rattle.table.proofs.{Places.place_of, Places.differ, Passes.facts_length, Rounds.fact_at_lem}
use Rattle.fixpoint.specs.Fixpoint.{Rests}

module _ (rule_set : RuleSet) (heap : Heap) (domain table : List ℕ) (old facts rounds : ℕ) (tagged : Tagged table old facts rounds)
    (ascending : Ascending (take facts table)) where
  word_below : (i j : ℕ) → i < j → j < facts → get_or table i 0 < get_or table j 0
  word_below i j h l =
      let long = length-take-le facts table tagged.within in
      let r = ascending_at (take facts table) ascending i j h (omega arith) in
      omega (arith, r, get_or-take facts table i 0 (omega arith), get_or-take facts table j 0 l)

  code-differs : (i j : ℕ) → i < j → j < facts → code_at table i ≢ code_at table j
  code-differs i j h l e =
      differ (facts_in table facts) tagged.once i j h (omega (arith, facts_length table facts tagged.within))
      (fact_at_lem table facts i (omega arith) ∙ e ∙ sym (fact_at_lem table facts j l))

  pub layered : ((i : ℕ) → i < facts → Rests rule_set heap domain table facts i) → Layered rule_set heap domain table facts
  layered rests = record {
    ordered = λ i j h l. omega (arith, word_below i j h l);
    once = code-differs;
    follows = λ i l. let s = rests i l in follows_more rule_set heap domain (earlier i l s) s.follows;
  }
    where
      earlier : (i : ℕ) → i < facts → (s : Rests rule_set heap domain table facts i) → (g : ℕ) → g among facts_in table s.start → EarlierFact table facts i g
      earlier i l s g m =
          let p = place_of m in
          let long = facts_length table s.start (omega (arith, s.before, tagged.within)) in
          let h : p.place < s.start = omega (arith, p.within) in
          (p.place, omega (arith, s.before), s.earlier p.place h, sym (p.is ∙ fact_at_lem table s.start p.place h))
