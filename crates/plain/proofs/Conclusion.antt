-- The three conditions, rule by rule: what is tested at a rule's place is what is asked of the rule, and of all rules together.
use mathlib.Core.List.Memᴰ
use mathlib.Core.{Path.◌≡◌, Path.refl, Path.sym, Path.subst, Path.◌∙◌, List.List}
use Prim.Native.Nat.{ℕ, ◌<◌}
use native.Mathlib.Omega.{arith}
use Rattle.semantics.specs.{Lists.◌among◌, RuleSet.Rule, RuleSet.rule_of}
use Rattle.semantics.specs.Plain.{Consumes, AllFixed, Plain}
use Rattle.block.specs.Layout.{rule_as, rule_set_read, fixed_in, constants_in, rule_count, rule_place}
use Rattle.block.proofs.RuleAs.{rules_are, rule_listed, rule-number}
use Rattle.plain.specs.{Fixing.AllFixedIn, Plain.RulesReadable, Plain.ConsumesIn, Plain.ExcludesLater, Plain.PlainRule}
use Rattle.plain.proofs.{Places.placed, Places.rule_at_lem, FixedTerms.all_fixed_here, FixedTerms.consumes_here}

module _ {given rules : List ℕ} (read : RulesReadable given rules) where
  module _ (r rule : ℕ) (h : r < rule_count rules) (e : rule ≡ rule_place r) where
    here : rule_as (fixed_in given) rules rule ≡ rule_of (rule_set_read given rules) r
    here = rule_at_lem read r rule h e

    pub plain_here : ConsumesIn rules rule → AllFixedIn rules rule → ExcludesLater (rule_set_read given rules) r → PlainRule (rule_set_read given rules) r
    plain_here consumes fixes excludes = record {
      consumes = subst Consumes here ((consumes_here (fixed_in given) rules rule).0 consumes);
      all_fixed = subst (AllFixed (rule_set_read given rules)) here ((all_fixed_here read (placed read r rule h e)).0 fixes);
      excludes = excludes;
    }

    pub consumes_back : PlainRule (rule_set_read given rules) r → ConsumesIn rules rule
    consumes_back p = (consumes_here (fixed_in given) rules rule).1 (subst Consumes (sym here) p.consumes)

    pub fixes_back : PlainRule (rule_set_read given rules) r → AllFixedIn rules rule
    fixes_back p = (all_fixed_here read (placed read r rule h e)).1 (subst (AllFixed (rule_set_read given rules)) (sym here) p.all_fixed)

  -- a rule of the rule set has a number
  by_number : (P : Rule → Type 0) → ((r : ℕ) → r < rule_count rules → P (rule_of (rule_set_read given rules) r)) → (rule : Rule) → rule among (rule_set_read given rules).rules → P rule
  by_number P each rule m =
      let (r, h, e) = rule-number (fixed_in given) (constants_in given) rules rule m in
      subst P (sym (e ∙ rule_at_lem read r (rule_place r) h refl)) (each r h)

  pub plain_all : ((r : ℕ) → r < rule_count rules → PlainRule (rule_set_read given rules) r) → Plain (rule_set_read given rules)
  plain_all each = record {
    consuming = by_number Consumes (λ r h. (each r h).consumes);
    all_fixed = by_number (AllFixed (rule_set_read given rules)) (λ r h. (each r h).all_fixed);
    exclusive = λ i j l h. (each i (omega (arith, rules_are (fixed_in given) (constants_in given) rules))).excludes j l h;
  }

  pub plain_each : Plain (rule_set_read given rules) → (r : ℕ) → r < rule_count rules → PlainRule (rule_set_read given rules) r
  plain_each plain r h = record {
    consumes = plain.consuming (rule_of (rule_set_read given rules) r) listed;
    all_fixed = plain.all_fixed (rule_of (rule_set_read given rules) r) listed;
    excludes = λ j l k. plain.exclusive r j l k;
  }
    where
      listed : rule_of (rule_set_read given rules) r among (rule_set_read given rules).rules
      listed = Memᴰ.cast (sym (rule_at_lem read r (rule_place r) h refl)) (rule_listed (fixed_in given) (constants_in given) rules r h)
