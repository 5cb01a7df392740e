-- The rules that a rule excludes, counted up one by one.
use mathlib.Core.{Path.◌≡◌}
use Prim.Native.Nat.{ℕ, ◌+◌, ◌≤◌, ◌<◌}
use native.Mathlib.{Omega.arith, Decide.ℕ_discrete, Decide.dec_lt}
use Rattle.semantics.specs.{RuleSet.RuleSet, RuleSet.rule_of, Plain.Exclude}
use Rattle.plain.specs.Plain.{ExcludesFrom, ExcludesLater}

-- The rules from one number up to another are excluded.
abbrev pub ExcludesWithin : RuleSet → ℕ → ℕ → ℕ → Type 0
ExcludesWithin rule_set r first n = (j : ℕ) → first ≤ j → j < n → Exclude rule_set (rule_of rule_set r) (rule_of rule_set j)

pub excludes_more : (rule_set : RuleSet) (r first n : ℕ) → Exclude rule_set (rule_of rule_set r) (rule_of rule_set n) → ExcludesWithin rule_set r first n
    → ExcludesWithin rule_set r first (n + 1)
excludes_more rule_set r first n e all j l h = step (ℕ_discrete j n)
  where
    step : Dec (j ≡ n) → Exclude rule_set (rule_of rule_set r) (rule_of rule_set j)
    step (yes q) = rw q e
    step (no q) = all j l (omega arith)

-- Those before a number, and those from it on, are all later ones.
pub excludes_rest : (rule_set : RuleSet) (r n : ℕ) → ExcludesWithin rule_set r (r + 1) n → ExcludesFrom rule_set r n → ExcludesLater rule_set r
excludes_rest rule_set r n before rest j l h = step (dec_lt j n)
  where
    step : Dec (j < n) → Exclude rule_set (rule_of rule_set r) (rule_of rule_set j)
    step (yes q) = before j (omega arith) q
    step (no q) = rest j (omega arith) h
