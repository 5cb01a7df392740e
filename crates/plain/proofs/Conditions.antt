-- The conditions of one rule over the classes: an equality merged, the two sides of another condition told apart.
use mathlib.Core.{Bool.Bool, Path.◌≡◌, Path.sym, Path.ap, Path.◌∙◌, List.List}
use Prim.Native.Nat.{ℕ, ◌<◌}
use Rattle.block.specs.Layout.{fixed_in, pure_count, pure_kind, pure_left, pure_right}
use Rattle.block.specs.Ready.{variables_in, FormedRead}
use Rattle.plain.specs.Classes.{entry_by, entries_of, Joined, Follows, Merged, EqualMet}
use Rattle.plain.proofs.{Seats.entry_image, Merging.joined_merged}

module _ (given rules : List ℕ) (at shared k : ℕ) {left right x y : ℕ} (is-left : left ≡ pure_left rules at k) (is_right : right ≡ pure_right rules at k) (classes : List ℕ)
    (is_x : x ≡ entry_by (fixed_in given) shared (entries_of classes) left) (is_y : y ≡ entry_by (fixed_in given) shared (entries_of classes) right) where
  abbrev side_by : (ℕ → ℕ) → ℕ → ℕ
  side_by σ t = entry_by (fixed_in given) shared σ t

  x_left : x ≡ side_by (entries_of classes) (pure_left rules at k)
  x_left = is_x ∙ ap (side_by (entries_of classes)) is-left

  y_right : y ≡ side_by (entries_of classes) (pure_right rules at k)
  y_right = is_y ∙ ap (side_by (entries_of classes)) is_right

  module _ (f : FormedRead given rules at) (h : k < pure_count rules at) (is : pure_kind rules at k ≡ 0) where
    left_image : (σ : ℕ → ℕ) (w : Follows σ classes) → side_by σ (pure_left rules at k) ≡ w.image x
    left_image σ w =
        entry_image (fixed_in given) shared (variables_in rules at) (pure_left rules at k) f.ready.variables_few (f.ready.pure_left_lem k h) σ classes w
        ∙ ap w.image (sym x_left)

    right_image : (σ : ℕ → ℕ) (w : Follows σ classes) → side_by σ (pure_right rules at k) ≡ w.image y
    right_image σ w =
        entry_image (fixed_in given) shared (variables_in rules at) (pure_right rules at k) f.ready.variables_few (f.ready.pure_right_lem k h) σ classes w
        ∙ ap w.image (sym y_right)

    pub equality_merged : {after : List ℕ} {ok : Bool} → Joined x y classes after ok → Merged (EqualMet (fixed_in given) rules at shared k) classes after ok
    equality_merged {after} {ok} =
        joined_merged (EqualMet (fixed_in given) rules at shared k) x y classes after ok (λ σ w e kind. left_image σ w ∙ e ∙ sym (right_image σ w))
        (λ σ w met. sym (left_image σ w) ∙ met is ∙ right_image σ w)
