-- `place_rules` meets its contract. The constants are placed first, apart from the rules. The bytes of the first k rules are placed and the
-- others are as they were; a rule whose bytes are all low stays as it is. At the end these are all bytes of the rules.
use Prim.Native.Nat.{ℕ, ◌+◌, ◌≤◌}
use mathlib.Core.{Path.◌≡◌, Path.◌∙◌, Logic.inl, List.List}
use lib.ListN.{length}
use native.Mathlib.Omega.{arith}
use Rattle.semantics.specs.RuleSet.{WellFormed}
use Rattle.block.specs.Layout.{rule_set_read, constant_count, rule_count, rule_place, fixed_in, constants_in}
use Rattle.domain.proofs.Counts.{few_rules}
use Rattle.placing.specs.Placed.{BytesPlaced, ConstantsPlaced}
use Rattle.placing.proofs.PlacingRules.{bytes_join, bytes_within, part_low, rules_all, placing_all, constants-count, constants_placeable}
use Rattle.placing.proofs.place_rules.Goals as goal
use Rattle.placing.proofs.place_rules.Goals.{then-highest-ge-FIXED, else-highest-ge-FIXED}

pub place_constants-requires : goal.place_constants-requires
place_constants-requires c =
    (constants_placeable c.args.query.now c.args.rules.now c.requires.2, c.requires.1, constants-count c.args.query.now c.args.rules.now c.requires.0)

rules-few : (domain query before after : List ℕ) → WellFormed (rule_set_read query before) → ConstantsPlaced domain query before after (constant_count query) → rule_count after ≤ 16
rules-few domain query before after formed p =
    omega (arith, (few_rules (fixed_in query) (constants_in query) before formed).rules_few, p.others 1 (λ e. omega arith) (inl (omega arith)))

pub slice_bounds-bytes-end : goal.slice_bounds-bytes-end
slice_bounds-bytes-end c =
    omega (arith, rules-few c.args.domain.now c.args.query.now c.args.rules.now _ c.requires.0 c.place_constants.ensures, c.rule_count-k-end.ensures.0, c.rule_place-in-loop-k.ensures)

pub place_bytes-requires : goal.place_bytes-requires
place_bytes-requires c = constants-count c.args.query.now c.args.rules.now c.requires.0

pub loop-k-preserved : goal.loop-k-preserved
loop-k-preserved c =
    let l = c.loop-k in
    let start : ℕ = rule_place l.k in
    let end : ℕ = rule_place (l.k + 1) in
    let up : start ≤ end = omega arith in
    let inside : end ≤ length l.rules = omega (arith, rules-few c.args.domain.now c.args.query.now c.args.rules.now _ c.requires.0 c.place_constants.ensures, c.rule_count-k-end.ensures.0, l.invariant.0) in
    let more : BytesPlaced c.args.domain.now c.args.query.now l.rules c.if-highest-ge-FIXED.rules start end = elim c.if-highest-ge-FIXED.branch [
      | then-highest-ge-FIXED w ↦
          rw (w.rules-is, c.rule_place.ensures, c.rule_place-in-loop-k.ensures)
          (bytes_within start end l.rules w.place_bytes.new.bytes up inside (rw (c.rule_place.ensures, c.rule_place-in-loop-k.ensures) at w.place_bytes.ensures))
      | else-highest-ge-FIXED w ↦
          rw (w.rules-is, c.rule_place.ensures, c.rule_place-in-loop-k.ensures)
          (part_low start end c.highest.result l.rules up inside (rw (c.rule_place.ensures, c.rule_place-in-loop-k.ensures) at c.highest.ensures) w.if-highest-ge-FIXED.false)
    ] in
    (more.long ∙ l.invariant.0, bytes_join start end (omega arith) up l.invariant.1 more)

pub returns : goal.returns
returns c =
    let l = c.loop-k in
    let e : l.k ≡ rule_count c.place_constants.new.rules = omega (arith, c.rule_count-k-end.ensures) in
    rules_all c.args.domain.now c.args.query.now c.args.rules.now l.rules
    (placing_all c.requires.0 c.requires.2 c.place_constants.ensures (rw e at l.invariant.1))
