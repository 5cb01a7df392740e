-- How entries are read and where they lie in a block, and what a reader that fills a block promises.
use mathlib.Core.{List.List, Logic.◌⊎◌, Path.◌≡◌}
use Rattle.std.specs.Prelude.{ℕ, ◌+◌, ◌*◌, ◌≤◌, ◌<◌, length, get_or, Result, OnOk, IfOk}
use Rattle.semantics.specs.{Reader.Reader, Reader.times, Formats.value}
use Rattle.semantics.specs.declared.Refusal.{Refusal}
use Rattle.words.specs.Entries.{tabulate}
use Rattle.reader.specs.Outcome.{Yields, valued}

-- A kind of entry: its reader, the entry at a place of a block, its width, and what holds of the numbers of one that was read. An entry looks
-- at no number but its own and those below `low`.
pub record Layout (A : Type 0) : Type 1 where
  pub read : Reader A
  pub held : List ℕ → ℕ → A
  pub Sized : List ℕ → ℕ → Type 0
  pub width : ℕ
  pub low : ℕ

-- A block keeps its length, and all places but those from `from` up to `to`.
pub record KeptOutside (from to : ℕ) (block block' : List ℕ) : Type 0 where
  pub long : length block' ≡ length block
  pub same : (i : ℕ) → (i < from) ⊎ (to ≤ i) → get_or block' i 0 ≡ get_or block i 0

-- What a reader that fills a block promises: what was read lies at its place, or the refusal is the reader's; and the rest of the block is as
-- before.
pub record Fills {A B : Type 0} (layout : Layout A) (at : ℕ) (before after block block' : List ℕ) (r : Result B Refusal) : Type 0 where
  pub reads : Yields layout.read before after (valued r (layout.held block' at))
  pub sized : OnOk r (layout.Sized block' at)
  pub kept : KeptOutside at (at + layout.width) block block'

-- The same for a reader that also gives the number at the place.
pub record Gives {A : Type 0} (layout : Layout A) (at : ℕ) (before after block block' : List ℕ) (r : Result ℕ Refusal) : Type 0 where
  pub fills : Fills layout at before after block block' r
  pub number : IfOk r (λ v. v ≡ get_or block' at 0)

-- An entry of one place: `value` says what the number there stands for, and `In` holds of it.
abbrev pub single : {A : Type 0} → Reader A → (ℕ → A) → (ℕ → Type 0) → Layout A
single read value In = record { read = read; held = λ block at. value (get_or block at 0); Sized = λ block at. In (get_or block at 0); width = 1; low = 0 }

-- `count` entries side by side, read by a reader of lists; and read each in the same way.
abbrev pub row : {A : Type 0} → ℕ → Reader (List A) → Layout A → Layout (List A)
row count read layout = record {
  read = read;
  held = λ block from. tabulate count (λ (k : ℕ). layout.held block (from + layout.width * k));
  Sized = λ block from. (k : ℕ) → k < count → layout.Sized block (from + layout.width * k);
  width = layout.width * count;
  low = layout.low;
}

abbrev pub many : {A : Type 0} → ℕ → Layout A → Layout (List A)
many count layout = row count (times count layout.read) layout

-- A field, a query's value or a constant; nothing is asked of it.
abbrev pub Any : ℕ → Type 0
Any v = Unit {0}

abbrev pub value_layout : ℕ → Layout ℕ
value_layout short = single (value short) (λ v. v) Any
