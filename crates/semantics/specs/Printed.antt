-- How a reply prints.
use Rattle.std.specs.Prelude.{List, ◌++◌, ℕ, codes, decimal}
use Rattle.semantics.specs.declared.Reply.{Reply}

-- Each number after its name.
abbrev pub reply_text : Reply → List ℕ
reply_text r = codes "refusal " ++ decimal r.refusal ++ codes " verdict " ++ decimal r.verdict ++ codes " facts " ++ decimal r.facts ++ codes " rounds " ++ decimal r.rounds ++ codes " lines " ++ decimal r.lines
