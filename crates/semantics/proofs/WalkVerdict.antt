-- The verdict of a walk that began with no record taken: fits, if every record is marked at its end. Then the tree that was found takes
-- them all. Where a tree by hand takes them all and the rule set is plain, the walk ends with some tree, as its outcome promises, and by
-- precision that tree takes the same records.
use mathlib.Core.List.Memᴰ
use mathlib.Core.{Path.◌≡◌, Path.ap, Option.Option, Option.some, Option.none-ne-some, Option.some-injective, List.List, List.[]}
use Prim.Native.Nat.{ℕ, ◌<◌}
use native.Mathlib.Omega.{arith}
use lib.ListN.{length}
use Rattle.semantics.specs.{Lists.Distinct, RuleSet.RuleSet, Heap.Heap, Heap.Ordered, Heap.set_of, Heap.whole_of, Formats.Input, Formats.WellFormedInput, Tree.Fits}
use Rattle.semantics.specs.{Plain.Plain, Walk.Walks, WalkOutcome.Marks, WalkOutcome.WalkOutcome}
use Rattle.semantics.proofs.{Bits.whole_set, Bits.whole_members, Parts.tree_below, Termination.few_below, Precision.tree_same}
use Rattle.semantics.proofs.Marking.{marks_out, marks_in, marks_same}

module _ (rule_set : RuleSet) (heap : Heap) (p : ℕ) (vs : List ℕ) (fuel : ℕ) where
  -- every record is marked: a tree takes all
  whole_right : {o : Option ℕ} → WalkOutcome rule_set heap fuel p vs 0 o → o ≡ some (whole_of heap) → Fits rule_set heap p vs
  whole_right (WalkOutcome.nothing n) e = absurd (none-ne-some (whole_of heap) e)
  whole_right (WalkOutcome.found {after = after} w) e =
      let q : after ≡ whole_of heap = some-injective after (whole_of heap) e in
      let (s, d, apart) = marks_out w.taken [] Distinct.none w.marks in
      record { taken = w.taken; tree = w.tree; once = d; all = whole_members (length heap) w.taken d (omega arith) }

  -- in a plain rule set what fits marks every record, with fuel for one record more than there are
  whole_exact : length heap < fuel → Ordered heap → Plain rule_set → Fits rule_set heap p vs → {o : Option ℕ} → WalkOutcome rule_set heap fuel p vs 0 o → o ≡ some (whole_of heap)
  whole_exact enough ordered plain f out =
      let whole : set_of f.taken ≡ whole_of heap = whole_set (length heap) f.taken f.once (tree_below f.tree) f.all in
      let m : Marks 0 f.taken (whole_of heap) = marks_in f.taken [] (omega arith) f.once Distinct.none (λ i k l. Memᴰ.not-nil l) in
      let short : length f.taken < fuel = omega (arith, few_below (length heap) f.taken f.once (tree_below f.tree)) in
      by m short out
    where
      by : Marks 0 f.taken (whole_of heap) → length f.taken < fuel → {o : Option ℕ} → WalkOutcome rule_set heap fuel p vs 0 o → o ≡ some (whole_of heap)
      by m short (WalkOutcome.nothing n) = absurd (n plain (record { taken = f.taken; after = whole_of heap; tree = f.tree; marks = m; short = short }))
      by m short (WalkOutcome.found w) =
          ap {B = Option ℕ} some (marks_same (tree_same rule_set heap ordered plain w.tree f.tree) w.marks m)

-- The two ways in which a walk ends: every record is marked, or not.
pub data Ends (heap : Heap) (o : Option ℕ) (verdict : ℕ) : Type 0 where
  whole : o ≡ some (whole_of heap) → verdict ≡ 1 → Ends heap o verdict
  not_whole : ¬ (o ≡ some (whole_of heap)) → verdict ≡ 0 → Ends heap o verdict

-- Whatever has the outcome of a walk keeps the promise of `walk`, for a plain rule set.
pub outcome_walks : (i : Input) → WellFormedInput i → Plain i.rule_set → (fuel : ℕ) → length i.heap < fuel → {o : Option ℕ}
    → WalkOutcome i.rule_set i.heap fuel i.predicate i.values 0 o → {verdict : ℕ} → Ends i.heap o verdict → Walks i (record { refusal = 0; verdict = verdict })
outcome_walks i h plain fuel enough out (Ends.whole e v) =
    Walks.fits plain (whole_right i.rule_set i.heap i.predicate i.values fuel out e) (ap (λ (n : ℕ). record { refusal = 0; verdict = n }) v)
outcome_walks i h plain fuel enough out (Ends.not_whole n v) =
    Walks.fits_not plain (λ f. n (whole_exact i.rule_set i.heap i.predicate i.values fuel enough h.valid.heap_formed.ordered plain f out))
    (ap (λ (m : ℕ). record { refusal = 0; verdict = m }) v)
