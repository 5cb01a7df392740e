-- Rules by their numbers: each has a place, and the rule there is that of the rule set.
use mathlib.Core.List.Memᴰ
use mathlib.Core.{Path.◌≡◌, Path.refl, Path.sym, Path.ap, Path.ap₂, Path.◌∙◌, Logic.⊎_elim, List.List}
use Prim.Native.Nat.{ℕ, ◌-◌, ◌≤◌, ◌<◌}
use native.Mathlib.Omega.{arith}
use Rattle.semantics.specs.{Lists.◌among◌, RuleSet.Rule, RuleSet.rule_of, RuleSet.fixed_values, Plain.Exclude}
use Rattle.block.specs.Layout.{rule_as, rule_set_as, rule_set_read, fixed_in, constants_in, rule_count, rule_place}
use Rattle.block.proofs.RuleAs.{rule_listed, rule_numbered, rules_are, ready_rule}
use Rattle.finding.specs.Values.{open_entry}
use Rattle.plain.specs.Plain.{RulesReadable, RulePlace}

-- every fixed value is below the bound
pub fixed_fits : (given rules : List ℕ) → RulesReadable given rules → (v : ℕ) → v among fixed_values (rule_set_read given rules) → v < open_entry
unfolding rule_set_as
fixed_fits given rules read v m = ⊎_elim (λ e. omega (arith, e)) (read.constants_fit v) (Memᴰ.cases_cons m)

module _ {given rules : List ℕ} (read : RulesReadable given rules) where
  pub rules_few : rule_count rules ≤ 16
  rules_few = omega (arith, rules_are (fixed_in given) (constants_in given) rules, read.formed.rules_few)

  pub place_of : (r : ℕ) → r < rule_count rules → RulePlace given rules (rule_place r)
  place_of r h =
      let well = read.formed.each (rule_as (fixed_in given) rules (rule_place r)) (rule_listed (fixed_in given) (constants_in given) rules r h) in
      record {
        number = r;
        below = h;
        is_place = refl;
        well = well;
        formed = record {
          inside = omega (arith, rules_few);
          ready = ready_rule (fixed_in given) (constants_in given) rules read.formed (rule_place r) well (λ b l m. fixed_fits given rules read (fixed_in given (b - 128)) m);
        };
      }

  pub placed : (r rule : ℕ) → r < rule_count rules → rule ≡ rule_place r → RulePlace given rules rule
  placed r rule h e = rw e (place_of r h)

  -- the rule at a place, by its number
  pub rule_at_lem : (r rule : ℕ) → r < rule_count rules → rule ≡ rule_place r → rule_as (fixed_in given) rules rule ≡ rule_of (rule_set_read given rules) r
  rule_at_lem r rule h e = ap (rule_as (fixed_in given) rules) e ∙ sym (rule_numbered (fixed_in given) (constants_in given) rules r h)

  pub exclude_at : (i j rule other : ℕ) → i < rule_count rules → j < rule_count rules → rule ≡ rule_place i → other ≡ rule_place j
      → Exclude (rule_set_read given rules) (rule_as (fixed_in given) rules rule) (rule_as (fixed_in given) rules other)
      ≡ Exclude (rule_set_read given rules) (rule_of (rule_set_read given rules) i) (rule_of (rule_set_read given rules) j)
  exclude_at i j rule other hi hj ei ej = ap₂ (λ (a b : Rule). Exclude (rule_set_read given rules) a b) (rule_at_lem i rule hi ei) (rule_at_lem j other hj ej)
