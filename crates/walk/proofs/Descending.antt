-- From what a call comes to, to what the calls of the chosen rule and the predicate come to.
use mathlib.Core.{Path.◌≡◌, Path.subst, List.List, List.[], List.◌∷◌, Logic.◌≢◌, Option.Option}
use Prim.Native.Nat.{ℕ, suc, ◌+◌, ◌-◌, ◌≤◌, ◌<◌}
use native.Mathlib.Omega.{arith}
use lib.ListN.{drop}
use Rattle.semantics.specs.{Tree.values_of, WalkOutcome.WalkOutcome, WalkOutcome.CallsOutcome}
use Rattle.semantics.proofs.{WalkSteps.node_next}
use Rattle.words.proofs.Tabulate.{tabulate-drop, tabulate_past}
use Rattle.block.specs.Layout.{rule_as, call_as, rule_set_read, fixed_in, heap_in, call_count, call_place, call_predicate}
use Rattle.std.specs.Prelude.{Option as Result}
use Rattle.walk.specs.Walk.{Readable, arguments_in, values_in, ChosenAt, CallsWith, WalksFrom, answer}

pub call_here : (value : ℕ → ℕ) (rules : List ℕ) (rule c : ℕ) → c < call_count rules rule
    → drop c (rule_as value rules rule).calls ≡ call_as value rules (call_place rule c) ∷ drop (c + 1) (rule_as value rules rule).calls
call_here value rules rule c h = tabulate-drop (call_count rules rule) (λ i. call_as value rules (call_place rule i)) c h

pub calls_past : (value : ℕ → ℕ) (rules : List ℕ) (rule c : ℕ) → call_count rules rule ≤ c → drop c (rule_as value rules rule).calls ≡ []
calls_past value rules rule c h = tabulate_past (call_count rules rule) (λ i. call_as value rules (call_place rule i)) c h

-- a call with its arguments
pub call_outcome : (given rules heap : List ℕ) (rule c : ℕ) (values : List ℕ) {fuel called : ℕ} {below : List ℕ} {mask : ℕ} (r : Result ℕ)
    → called ≡ call_predicate rules rule c → CallsWith given rules rule c values below → WalksFrom given rules heap fuel called below mask r
    → WalkOutcome (rule_set_read given rules) (heap_in heap) fuel (call_predicate rules rule c) (values_of (values_in rules rule values) (call_as (fixed_in given) rules (call_place rule c)).arguments) mask (answer r)
call_outcome given rules heap rule c values {fuel} {called} {below} {mask} r e w o =
    subst (λ (vs : List ℕ). WalkOutcome (rule_set_read given rules) (heap_in heap) fuel (call_predicate rules rule c) vs mask (answer r)) w.are_values
    (subst (λ (p : ℕ). WalkOutcome (rule_set_read given rules) (heap_in heap) fuel p (arguments_in rules p below) mask (answer r)) e o.outcome)

-- the predicate, from the rule that is chosen for it and what its calls come to
pub chosen_outcome : {given rules heap : List ℕ} → Readable given rules heap → {rule predicate : ℕ} {arguments : List ℕ} {mask : ℕ} {values : List ℕ} {after fuel : ℕ} → fuel ≢ 0
    → ChosenAt given rules rule heap predicate arguments mask values after → {o : Option ℕ}
    → CallsOutcome (rule_set_read given rules) (heap_in heap) (fuel - 1) (values_in rules rule values) (rule_as (fixed_in given) rules rule).calls after o
    → WalkOutcome (rule_set_read given rules) (heap_in heap) fuel predicate (arguments_in rules predicate arguments) mask o
chosen_outcome {given} {rules} {heap} readable {predicate = predicate} {arguments = arguments} {mask = mask} {fuel = fuel} some c {o = o} calls =
    let e : suc (fuel - 1) ≡ fuel = omega arith in
    subst (λ (n : ℕ). WalkOutcome (rule_set_read given rules) (heap_in heap) n predicate (arguments_in rules predicate arguments) mask o) e
    (node_next (rule_set_read given rules) (heap_in heap) readable.heap_formed.ordered c.chosen calls)
