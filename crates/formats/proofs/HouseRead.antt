-- The house book is read into the three shapes.
use mathlib.Core.Path.{◌≡◌, refl}
use Rattle.semantics.specs.{Reader.accepted, Reader.times, Reader.counted, Formats.read_rule_set, Contract.house}
use Rattle.formats.specs.House.{shapes}

pub house_read : read_rule_set house ≡ accepted shapes
unfolding read_rule_set times counted
house_read = refl
