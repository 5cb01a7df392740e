-- The house book H, written out: a list segment is predicate 0, a ring 1, a queue with its free chain 2.
use Rattle.std.specs.Prelude.{[], ◌∷◌}
use Rattle.semantics.specs.RuleSet.{Term, var, fixed, equal, Call, Rule, RuleSet}

abbrev nil : Term
nil = fixed 0

abbrev segment : Term → Term → Call
segment a b = record { predicate = 0; arguments = a ∷ b ∷ [] }

-- segment(a, b) if a = b
abbrev pub segment_ends : Rule
segment_ends = record { head = 0; bound = 0; pures = record { kind = equal; left = var 0; right = var 1 } ∷ []; points_to = []; calls = [] }

-- segment(a, b) if a ↦ (c) and segment(c, b)
abbrev pub segment_goes_on : Rule
segment_goes_on =
    record { head = 0; bound = 1; pures = []; points_to = record { address = 0; fields = var 2 ∷ [] } ∷ []; calls = segment (var 2) (var 1) ∷ [] }

-- ring(a) if a ↦ (b) and segment(b, a)
abbrev pub ring : Rule
ring = record { head = 1; bound = 1; pures = []; points_to = record { address = 0; fields = var 1 ∷ [] } ∷ []; calls = segment (var 1) (var 0) ∷ [] }

-- queue with free chain (a, b) if segment(a, nil) and segment(b, nil)
abbrev pub queue_and_free : Rule
queue_and_free = record { head = 2; bound = 0; pures = []; points_to = []; calls = segment (var 0) nil ∷ segment (var 1) nil ∷ [] }

abbrev pub shapes : RuleSet
shapes = record { arities = 2 ∷ 1 ∷ 2 ∷ []; constants = []; rules = segment_ends ∷ segment_goes_on ∷ ring ∷ queue_and_free ∷ [] }
