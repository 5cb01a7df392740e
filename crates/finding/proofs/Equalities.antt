-- Equalities as links: where one side is known, the other is learnt from it.
use mathlib.Core.{List.List, Path.◌≡◌, Path.refl, Path.sym, Path.◌∙◌}
use Prim.Native.Nat.{ℕ, ◌<◌}
use borrow.Author.Tests.{eq-eqb}
use lib.ListN.{length}
use Rattle.semantics.specs.Tree.{value_of, Compare}
use Rattle.block.specs.Layout.{term_as, kind_in, pure_count, pure_kind, pure_left, pure_right}
use Rattle.block.specs.Ready.{TermByte, FormedRule, variables_in}
use Rattle.finding.specs.Values.{open_entry, Valued, Learnt}
use Rattle.finding.specs.Links.{PureClosed, PureMet, AlongPure}
use Rattle.finding.proofs.Learning.{Stays, still_valued, small_valued, agreed, learnt_along}

pub pure_stays : (rules : List ℕ) (at : ℕ) → Stays (PureClosed rules at)
pure_stays rules at k a b c d ab closed cd = record {
  to_right = λ e h. still_valued c d (pure_right rules at k) cd (closed.to_right e (still_valued a b (pure_left rules at k) ab h));
  to_left = λ e h. still_valued c d (pure_left rules at k) cd (closed.to_left e (still_valued a b (pure_right rules at k) ab h));
}

module _ (value : ℕ → ℕ) (rules : List ℕ) (at k : ℕ) where
  sides_equal : pure_kind rules at k ≡ 0 → (σ : List ℕ) → PureMet value rules at k σ → value_of σ (term_as value (pure_left rules at k)) ≡ value_of σ (term_as value (pure_right rules at k))
  sides_equal e σ met =
      let a : ℕ = value_of σ (term_as value (pure_left rules at k)) in
      let b : ℕ = value_of σ (term_as value (pure_right rules at k)) in
      let compares : Compare (kind_in (pure_kind rules at k)) a b ≡ (a ≡ b) = rw (eq-eqb (pure_kind rules at k) 0 e, Compare) refl in
      rw compares at met

  module _ {Fixed : ℕ → Type 0} (f : FormedRule Fixed rules at) (h : k < pure_count rules at) (is : pure_kind rules at k ≡ 0) {before after : List ℕ} (long : length before ≡ 8) where
    -- one side is known, and the other learnt from it
    along_side : (t u : ℕ) → TermByte Fixed (variables_in rules at) t → ((σ : List ℕ) → PureMet value rules at k σ → value_of σ (term_as value u) ≡ value_of σ (term_as value t))
        → (Valued after t → Valued after u → PureClosed rules at k before after) → value_of before (term_as value t) < open_entry → Learnt u (value_of before (term_as value t)) before after
        → AlongPure value rules at k before after
    along_side t u byte same closed small l =
        let known = small_valued value before t small in
        let a = learnt_along value long small l (variables_in rules at) in
        record {
          keeps = a.keeps;
          agrees = λ σ met agrees. a.agrees σ (same σ met ∙ agreed value Fixed (variables_in rules at) t before σ f.ready.variables_few byte agrees known) agrees;
          closed = closed (still_valued before after t a.keeps known) a.closed;
        }

    pub along_right : value_of before (term_as value (pure_left rules at k)) < open_entry → Learnt (pure_right rules at k) (value_of before (term_as value (pure_left rules at k))) before after
        → AlongPure value rules at k before after
    along_right =
        along_side (pure_left rules at k) (pure_right rules at k) (f.ready.pure_left_lem k h) (λ σ met. sym (sides_equal is σ met))
        (λ l r. record { to_right = λ e v. r; to_left = λ e v. l })

    pub along_left : value_of before (term_as value (pure_right rules at k)) < open_entry → Learnt (pure_left rules at k) (value_of before (term_as value (pure_right rules at k))) before after
        → AlongPure value rules at k before after
    along_left =
        along_side (pure_right rules at k) (pure_left rules at k) (f.ready.pure_right_lem k h) (sides_equal is)
        (λ r l. record { to_right = λ e v. r; to_left = λ e v. l })
