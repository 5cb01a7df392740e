-- Rule sets that differ at most in how their constants are listed: in which order, how often, and whether nil is among them. Every contract
-- says the same of both (`proofs/SameConstants.antt`).
use mathlib.Core.{Path.◌≡◌, Logic.◌↔◌}
use Rattle.std.specs.Prelude.{ℕ}
use Rattle.semantics.specs.{Lists.◌among◌, RuleSet.RuleSet, RuleSet.fixed_values}

-- The same predicates, the same rules, and the same values that a fixed term may have.
pub record SameRules (a b : RuleSet) : Type 0 where
  pub arities : a.arities ≡ b.arities
  pub rules : a.rules ≡ b.rules
  pub fixed : (v : ℕ) → (v among fixed_values a) ↔ (v among fixed_values b)
