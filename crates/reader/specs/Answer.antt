-- The answer at the end of the reading, and the result that it stands for.
use Rattle.std.specs.Prelude.{List, [], ◌∷◌, ℕ, Result, Ok, Err}
use Rattle.semantics.specs.Reader.{Result as Reading, accepted, refused}
use Rattle.semantics.specs.Numbered.{number_of}
use Rattle.semantics.specs.declared.Refusal.{Refusal}

-- The result that an answer stands for, where `a` is what was read.
abbrev pub result_of : {A : Type 0} → Result (Unit {0}) Refusal → A → Reading A
result_of (Ok done) a = accepted a
result_of (Err refusal) a = refused (number_of refusal)

-- At the end of the reading no byte may be left.
abbrev pub unless_more : Refusal → List ℕ → Result (Unit {0}) Refusal
unless_more more [] = Ok tt
unless_more more (b ∷ bytes) = Err more
