-- A rule's own values within those of both rules: with the same value at each variable's seat, the same conditions are met.
use mathlib.Core.{Path.◌≡◌, Path.refl, Path.sym, Path.◌∙◌, Logic.◌≢◌, Logic.⊎_elim, List.List}
use Prim.Native.Nat.{ℕ, ◌<◌}
use native.Mathlib.{Omega.arith, Decide.ℕ_discrete}
use borrow.Author.Tests.{eq-eqb, ne_eqb}
use lib.ListN.{get_or}
use Rattle.semantics.specs.{Lists.◌among◌, RuleSet.Pure, Tree.value_of, Tree.Compare, Tree.Meets}
use Rattle.words.proofs.Tabulate.{tabulate_in, tabulate_out}
use Rattle.block.specs.Layout.{term_as, kind_in, pure_as, rule_as, pure_count, pure_place, pure_kind, pure_left, pure_right}
use Rattle.block.specs.Ready.{TermByte, FormedRule, variables_in}
use Rattle.block.proofs.TermsInBlock.{term_variable, term_fixed}
use Rattle.plain.specs.Classes.{seat, entry_by, SideMet}
use Rattle.plain.proofs.Seats.{entry_variable, entry_fixed}

-- ---- a condition by its byte

compare_equal : (b x y : ℕ) → b ≡ 0 → Compare (kind_in b) x y ≡ (x ≡ y)
compare_equal b x y e = rw (eq-eqb b 0 e, Compare) refl

compare_unequal : (b x y : ℕ) → b ≢ 0 → Compare (kind_in b) x y ≡ (x ≢ y)
compare_unequal b x y n = rw (ne_eqb b 0 n, Compare) refl

compare_in : (b x y : ℕ) → (b ≡ 0 → x ≡ y) → (b ≢ 0 → x ≢ y) → Compare (kind_in b) x y
compare_in b x y e n = step (ℕ_discrete b 0)
  where
    step : Dec (b ≡ 0) → Compare (kind_in b) x y
    step (yes q) = rw (compare_equal b x y q) (e q)
    step (no q) = rw (compare_unequal b x y q) (n q)

-- ---- all conditions of a rule

-- The rule's variables have the same values in both lists.
abbrev pub Seated : List ℕ → ℕ → ℕ → (ℕ → ℕ) → List ℕ → Type 0
Seated rules at shared σ τ = (v : ℕ) → v < variables_in rules at → σ (seat shared v) ≡ get_or τ v 0

module _ (value : ℕ → ℕ) {Fixed : ℕ → Type 0} (rules : List ℕ) (at shared : ℕ) (f : FormedRule Fixed rules at) (σ : ℕ → ℕ) (τ : List ℕ) (seated : Seated rules at shared σ τ) where
  entry_value : (t : ℕ) → TermByte Fixed (variables_in rules at) t → entry_by value shared σ t ≡ value_of τ (term_as value t)
  entry_value t byte =
      ⊎_elim
      (λ l. sym (entry_variable value shared σ t (omega (arith, f.ready.variables_few))) ∙ seated t l ∙ term_variable value τ t (omega (arith, f.ready.variables_few)))
      (λ e. sym (entry_fixed value shared σ t e.0) ∙ term_fixed value τ t e.0)
      byte

  left-value : (k : ℕ) → k < pure_count rules at → entry_by value shared σ (pure_left rules at k) ≡ value_of τ (term_as value (pure_left rules at k))
  left-value k h = entry_value (pure_left rules at k) (f.ready.pure_left_lem k h)

  right_value : (k : ℕ) → k < pure_count rules at → entry_by value shared σ (pure_right rules at k) ≡ value_of τ (term_as value (pure_right rules at k))
  right_value k h = entry_value (pure_right rules at k) (f.ready.pure_right_lem k h)

  pub side_met : ((p : Pure) → p among (rule_as value rules at).pures → Meets τ p) → SideMet value rules at shared σ
  side_met meets = record {
    equals = λ k h e. left-value k h ∙ (rw (compare_equal (pure_kind rules at k) _ _ e) at (met k h)) ∙ sym (right_value k h);
    unequals = λ k h n e. (rw (compare_unequal (pure_kind rules at k) _ _ n) at (met k h)) (sym (left-value k h) ∙ e ∙ right_value k h);
  }
    where
      met : (k : ℕ) → k < pure_count rules at
          → Compare (kind_in (pure_kind rules at k)) (value_of τ (term_as value (pure_left rules at k))) (value_of τ (term_as value (pure_right rules at k)))
      met k h = meets (pure_as value rules (pure_place at k)) (tabulate_in (pure_count rules at) (λ i. pure_as value rules (pure_place at i)) k h)

  pub met_side : SideMet value rules at shared σ → (p : Pure) → p among (rule_as value rules at).pures → Meets τ p
  met_side s p m =
      let (k, h, e) = tabulate_out (pure_count rules at) (λ i. pure_as value rules (pure_place at i)) p m in
      rw e
      (compare_in (pure_kind rules at k) (value_of τ (term_as value (pure_left rules at k))) (value_of τ (term_as value (pure_right rules at k)))
      (λ q. sym (left-value k h) ∙ s.equals k h q ∙ right_value k h)
      (λ n q. s.unequals k h n (left-value k h ∙ q ∙ sym (right_value k h))))
