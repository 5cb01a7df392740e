-- `place_rules` meets its contract. The constants are placed first, apart from the rules. The bytes of the first k rules are placed and the
-- others are as they were; a rule whose bytes are all low stays as it is. At the end these are all bytes of the rules.
use mathlib.Core.{Path.◌≡◌}
use lib.ListN.{length}
use Rattle.block.specs.Layout.{rule_place, rule_set_size}
use Rattle.placing.specs.Placed.{BytesPlaced}
use Rattle.placing.proofs.place_rules.Given as goal

abbrev pub invariant-loop-k : goal.invariant-loop-k
invariant-loop-k l = (length l.rules ≡ rule_set_size) × BytesPlaced l.domain l.query l.initial.rules l.rules (rule_place 0) (rule_place l.k)
