-- A rule tried with the values found for its variables: it is chosen if all are found, its pure conditions are met and its points-to atoms
-- take free records; otherwise a plain rule set leaves no way to choose it.
use mathlib.Core.{Path.◌≡◌, Path.refl, Path.sym, Path.ap, Path.◌∙◌, Path.subst, Logic.◌≢◌, Logic.by_cases}
use mathlib.Core.List.Memᴰ
use mathlib.Core.{List.List, List.◌++◌}
use Prim.Native.Nat.{ℕ, ◌≤◌, ◌<◌}
use native.Mathlib.{Omega.arith, Decide.dec_lt}
use lib.{ListN.length, ListN.get_or, ListN.take, ListN.drop, ListN.length-drop, ListN.take-append-drop, Seq.get_or-take, Seq.length-take-le, Seq.ext_get_or}
use Rattle.semantics.specs.RuleSet.{PointsTo, Pure, fixed_values, variables, arity}
use Rattle.semantics.specs.{Lists.◌among◌, Heap.Heap, Tree.Meets, Tree.asked, Tree.Takes, WalkOutcome.TakesFreely, WalkOutcome.Chosen, Found.Agrees, Found.AllFound}
use Rattle.semantics.proofs.{WalkChoice.chosen_by, WalkChoice.left_open, WalkChoice.not_met, WalkChoice.not_free}
use Rattle.std.specs.Prelude.{Option}
use Rattle.words.proofs.{Ranges.option_as, Tabulate.tabulate_in, Tabulate.tabulate_out}
use Rattle.block.specs.Layout.{pure_as, rule_as, rule_set_read, fixed_in, constants_in, heap_in, arity_in, head_in, head_arity, bound_in, pure_count, pure_place}
use Rattle.block.specs.Ready.{variables_in}
use Rattle.block.proofs.{RuleAs.rule_listed, RuleAs.head_arity_is, RuleAs.variables_are, Values.StartsWith, Values.meets_same, Values.asked_same}
use Rattle.finding.specs.{Values.open_entry, Values.opens, Values.known_in, Values.Counted, Found.FoundIn}
use Rattle.finding.proofs.{Opens.opens_none, Opens.opens_some, Known.entry_has, Known.open_entry_lem, Known.known_long, Known.known_agrees}
use Rattle.walk.specs.Taking.{PuresMet, TakesEach}
use Rattle.plain.specs.Plain.{RulesReadable, RulePlace}
use Rattle.plain.proofs.Places.{fixed_fits}
use Rattle.walk.specs.Walk.{Readable, arguments_in, values_in, ChosenAt, NotChosen, Attempts}

-- ---- the rule at a place

module _ {given rules : List ℕ} {rule : ℕ} (place : RulePlace given rules rule) where
  listed : rule_as (fixed_in given) rules rule among (rule_set_read given rules).rules
  listed = rw place.is_place (rule_listed (fixed_in given) (constants_in given) rules place.number place.below)

  -- a rule of another predicate cannot be chosen
  pub not_served : (heap : List ℕ) {predicate : ℕ} (arguments : List ℕ) {mask : ℕ} → head_in rules rule ≢ predicate → NotChosen given rules heap predicate arguments mask (rule_as (fixed_in given) rules rule)
  not_served heap arguments n plain c = n (sym c.heads)

-- ---- the values of its variables are the first of eight

module _ {given rules : List ℕ} (read : RulesReadable given rules) {rule : ℕ} (place : RulePlace given rules rule) {values : List ℕ} (known : Counted values 0) where
  scope : variables (rule_set_read given rules) (rule_as (fixed_in given) rules rule) ≡ variables_in rules rule
  scope = variables_are (fixed_in given) (constants_in given) rules read.formed rule place.well

  values_long : length (values_in rules rule values) ≡ variables_in rules rule
  values_long = length-take-le (variables_in rules rule) values (omega (arith, known.eight, place.formed.ready.variables_few))

  pub starts : StartsWith (fixed_values (rule_set_read given rules)) open_entry (variables (rule_set_read given rules) (rule_as (fixed_in given) rules rule)) (values_in rules rule values) values
  starts = record {
    fixed_below = fixed_fits given rules read;
    at = λ i h. sym (get_or-take (variables_in rules rule) values i 0 (omega (arith, scope)));
    below = λ i h. omega (arith, get_or-take (variables_in rules rule) values i 0 (omega (arith, scope)), opens_none values (sym known.is) i);
  }

  pures_met : PuresMet (fixed_in given) rules rule values → (pure : Pure) → pure among (rule_as (fixed_in given) rules rule).pures → Meets (values_in rules rule values) pure
  pures_met met pure m =
      let (k, h, e) = tabulate_out (pure_count rules rule) (λ i. pure_as (fixed_in given) rules (pure_place rule i)) pure m in
      let met_here : Meets values pure = rw e (met k h) in
      rw (meets_same starts pure (place.well.pures_left pure m) (place.well.pures_right pure m)) at met_here

  met_pures : ((pure : Pure) → pure among (rule_as (fixed_in given) rules rule).pures → Meets (values_in rules rule values) pure) → PuresMet (fixed_in given) rules rule values
  met_pures met k h =
      let pure = pure_as (fixed_in given) rules (pure_place rule k) in
      let m = tabulate_in (pure_count rules rule) (λ i. pure_as (fixed_in given) rules (pure_place rule i)) k h in
      rw (meets_same starts pure (place.well.pures_left pure m) (place.well.pures_right pure m)) (met pure m)

  asks_same : (atom : PointsTo) → atom among (rule_as (fixed_in given) rules rule).points_to → asked values atom ≡ asked (values_in rules rule values) atom
  asks_same atom m = asked_same starts atom (place.well.atoms_address atom m) (place.well.atoms_fields atom m)

-- atoms that ask for the same records take the same
takes_as : {heap : Heap} {σ τ : List ℕ} {atoms : List PointsTo} {indices : List ℕ} → ((atom : PointsTo) → atom among atoms → asked τ atom ≡ asked σ atom)
    → Takes heap σ atoms indices → Takes heap τ atoms indices
takes_as same Takes.none = Takes.none
takes_as same (Takes.atom h e rest) = Takes.atom h (e ∙ sym (same _ (Memᴰ.head refl))) (takes_as (λ atom m. same atom (Memᴰ.tail m)) rest)

freely_as : {heap : Heap} {σ τ : List ℕ} {atoms : List PointsTo} {mask after : ℕ} → ((atom : PointsTo) → atom among atoms → asked τ atom ≡ asked σ atom)
    → TakesFreely heap σ atoms mask after → TakesFreely heap τ atoms mask after
freely_as same t = record { indices = t.indices; takes = takes_as same t.takes; marks = t.marks }

-- ---- what trying it comes to

module _ {given rules heap : List ℕ} (readable : Readable given rules heap) {rule : ℕ} (place : RulePlace given rules rule) {predicate : ℕ} (serves : head_in rules rule ≡ predicate)
    {arguments : List ℕ} (whole : Counted arguments 0) {values : List ℕ} (found : FoundIn given rules rule heap arguments values) where
  head_same : arity_in rules predicate ≡ head_arity rules rule
  head_same = ap (arity_in rules) (sym serves)

  found_for : AllFound (rule_set_read given rules) (heap_in heap) (rule_as (fixed_in given) rules rule) (arguments_in rules predicate arguments) (known_in values (variables_in rules rule))
  found_for = rw head_same found.is

  -- a variable is open
  pub not_found : {mask : ℕ} → opens values ≢ 0 → length values ≡ 8 → NotChosen given rules heap predicate arguments mask (rule_as (fixed_in given) rules rule)
  not_found n eight plain c =
      let (v, h, o) = opens_some values n in
      by_cases (dec_lt v (variables_in rules rule))
      (λ l. left_open plain found_for v (omega (arith, known_long values (variables_in rules rule) (omega (arith, eight, place.formed.ready.variables_few)))) (open_entry_lem values (variables_in rules rule) v l o) c)
      (λ g. omega (arith, found.later v (omega arith)))

  module _ (known : Counted values 0) where
    few : variables_in rules rule ≤ length values
    few = omega (arith, known.eight, place.formed.ready.variables_few)

    long : length (values_in rules rule values) ≡ length (known_in values (variables_in rules rule))
    long = values_long readable.rules_read place known ∙ sym (known_long values (variables_in rules rule) few)

    agrees : Agrees (known_in values (variables_in rules rule)) (values_in rules rule values)
    agrees =
        known_agrees values (variables_in rules rule) few (values_in rules rule values) (values_long readable.rules_read place known)
        (λ v h l. get_or-take (variables_in rules rule) values v 0 h)

    -- a pure condition is not met
    pub not_met_values : {mask : ℕ} → ¬ PuresMet (fixed_in given) rules rule values → NotChosen given rules heap predicate arguments mask (rule_as (fixed_in given) rules rule)
    not_met_values n plain = not_met plain found_for (values_in rules rule values) long agrees (λ met. n (met_pures readable.rules_read place known met))

    -- the points-to atoms take no free records
    pub not_free_values : {mask : ℕ} → ((after : ℕ) → ¬ TakesFreely (heap_in heap) values (rule_as (fixed_in given) rules rule).points_to mask after) → NotChosen given rules heap predicate arguments mask (rule_as (fixed_in given) rules rule)
    not_free_values n plain =
        not_free plain found_for (values_in rules rule values) long agrees (λ after t. n after (freely_as (asks_same readable.rules_read place known) t))

    -- the head's arguments are its first values
    heads_are : arguments_in rules predicate arguments ≡ take (arity_in rules predicate) (values_in rules rule values)
    heads_are =
        let arity = arity_in rules predicate in
        let least : arity ≤ variables_in rules rule = omega (arith, head_same) in
        let counted = length-take-le arity arguments (omega (arith, whole.eight, place.formed.ready.head_arity_lem, head_same)) in
        ext_get_or 0 (take arity arguments) (take arity (values_in rules rule values)) (counted ∙ sym (length-take-le arity (values_in rules rule values) (omega (arith, values_long readable.rules_read place known))))
        (λ v h.
        let l : v < arity = omega (arith, counted) in
        let is : get_or values v 0 ≡ get_or (take arity arguments) v 0 = (entry_has values (variables_in rules rule) v (get_or (take arity arguments) v 0) (omega arith) (found_for.heads v h)).1 in
        sym is ∙ sym (get_or-take (variables_in rules rule) values v 0 (omega arith)) ∙ sym (get_or-take arity (values_in rules rule values) v 0 l))

    counted : length (arguments_in rules predicate arguments) ≡ arity (rule_set_read given rules) (head_in rules rule)
    counted =
        length-take-le (arity_in rules predicate) arguments (omega (arith, whole.eight, place.formed.ready.head_arity_lem, head_same))
        ∙ head_same ∙ sym (head_arity_is (fixed_in given) (constants_in given) rules readable.rules_read.formed rule place.well)

    abbrev bound : List ℕ
    bound = drop (arity_in rules predicate) (values_in rules rule values)

    joined : arguments_in rules predicate arguments ++ bound ≡ values_in rules rule values
    joined = ap (λ (l : List ℕ). l ++ bound) heads_are ∙ take-append-drop (arity_in rules predicate) (values_in rules rule values)

    bound_counted : length bound ≡ bound_in rules rule
    bound_counted = omega (arith, length-drop (arity_in rules predicate) (values_in rules rule values), values_long readable.rules_read place known, head_same)

    -- it is chosen
    pub chosen_values : {mask after : ℕ} → PuresMet (fixed_in given) rules rule values → TakesFreely (heap_in heap) values (rule_as (fixed_in given) rules rule).points_to mask after
        → ChosenAt given rules rule heap predicate arguments mask values after
    chosen_values {mask} {after} met t = record {
      place = place;
      all_known = known;
      chosen = subst (λ (σ : List ℕ). Chosen (rule_set_read given rules) (heap_in heap) mask predicate (arguments_in rules predicate arguments) (rule_as (fixed_in given) rules rule) σ after) joined
          (chosen_by bound (listed place) (sym serves) counted bound_counted
          (λ pure m. subst (λ (σ : List ℕ). Meets σ pure) (sym joined) (pures_met readable.rules_read place known met pure m))
          (subst (λ (σ : List ℕ). TakesFreely (heap_in heap) σ (rule_as (fixed_in given) rules rule).points_to mask after) (sym joined)
          (freely_as (λ atom m. sym (asks_same readable.rules_read place known atom m)) t)));
    }

    -- so the taking of records decides
    pub attempts_take : (mask : ℕ) (r : Option ℕ) → PuresMet (fixed_in given) rules rule values → TakesEach (fixed_in given) rules rule values heap mask r
        → Attempts given rules rule heap predicate arguments mask values r
    attempts_take mask r met t = option_as r not_free_values (λ after taken. chosen_values met taken) t
