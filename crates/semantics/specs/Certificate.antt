-- Certificates (paper 01: unfoldings written as lines, and the conditions for lines). A line is three words, and the first line has the
-- number 1. The first word is the fact. The second has a byte for each variable of the rule, from the low end up: the position of its
-- value. The third has the rule's number in its lowest byte, and above it sixteen bits for each call: the number of the line that is
-- called.
use mathlib.Core.{List.List, List.[], List.◌∷◌, List.◌++◌, List.map, Path.◌≡◌, Logic.◌≢◌}
use Rattle.std.specs.Prelude.{ℕ, ◌+◌, ◌-◌, ◌*◌, ◌≤◌, ◌<◌, length, get_or}
use Rattle.semantics.specs.{Lists.◌among◌, Lists.Distinct, Lists.digits, RuleSet.Call, RuleSet.Rule, RuleSet.RuleSet, RuleSet.rule_of}
use Rattle.semantics.specs.{Heap.Heap, Heap.set_of, Tree.Tree, Tree.Forest, Fact.position, Fact.fact, Rounds.Ground}

-- The words of line k, which is 1 or more.
abbrev pub fact_at : List ℕ → ℕ → ℕ
fact_at words k = get_or words (3 * k - 3) 0

abbrev pub positions_at : List ℕ → ℕ → ℕ
positions_at words k = get_or words (3 * k - 2) 0

abbrev pub rule_at : List ℕ → ℕ → ℕ
rule_at words k = get_or words (3 * k - 1) 0

-- What the second and the third word of line k say: rule, values and lines called. All bits beyond these are 0.
pub record Written (rule_set : RuleSet) (domain words : List ℕ) (k : ℕ) (rule : Rule) (values lines : List ℕ) : Type 0 where
  pub number : ℕ
  pub in_rule_set : number < length rule_set.rules
  pub is_rule : rule_of rule_set number ≡ rule
  pub positions : positions_at words k ≡ digits 256 (map (position domain) values)
  pub names : rule_at words k ≡ number + 256 * digits 65536 lines

-- Line k holds: it is a ground instance of its rule, so that head arguments, pure conditions, points-to atoms, called facts and the
-- disjoint join are right, and what it calls are the facts of earlier lines.
pub record LineHolds (rule_set : RuleSet) (heap : Heap) (domain words : List ℕ) (k : ℕ) (lines : List ℕ) : Type 0 where
  pub earlier : (l : ℕ) → l among lines → (1 ≤ l) × (l < k)
  pub ground : Ground rule_set heap domain (map (fact_at words) lines) (fact_at words k)
  pub written : Written rule_set domain words k ground.rule (ground.arguments ++ ground.bound) lines

-- The conditions for lines: the words are lines, at least one and at most 65,535; each holds; and the last has the fact of the predicate
-- with these values and exactly this subheap. `calls k` lists the lines that line k calls.
pub record Certificate (rule_set : RuleSet) (heap : Heap) (domain : List ℕ) (predicate : ℕ) (values : List ℕ) (part : ℕ) (words : List ℕ) : Type 0 where
  pub count : ℕ
  pub some : 1 ≤ count
  pub most : count ≤ 65535
  pub whole : length words ≡ 3 * count
  pub calls : ℕ → List ℕ
  pub each : (k : ℕ) → 1 ≤ k → k ≤ count → LineHolds rule_set heap domain words k (calls k)
  pub last : fact_at words count ≡ fact domain predicate values part

-- The engine's kind of certificate has nothing to spare: two lines never have one fact, and every line before the last is called from
-- further down.
pub record Trimmed (rule_set : RuleSet) (heap : Heap) (domain : List ℕ) (predicate : ℕ) (values : List ℕ) (part : ℕ) (words : List ℕ) : Type 0 where
  pub taken : Certificate rule_set heap domain predicate values part words
  pub once : (j k : ℕ) → 1 ≤ j → j < k → k ≤ taken.count → fact_at words j ≢ fact_at words k
  pub used : (k : ℕ) → 1 ≤ k → k < taken.count → (j : ℕ) × (k < j) × (j ≤ taken.count) × (k among taken.calls j)

-- The tree is line k opened: it starts with the line's fact, rule and values, and its branches are the lines that line k calls, each
-- opened in turn; a line that is called twice has two branches.
module _ (rule_set : RuleSet) (heap : Heap) (domain words : List ℕ) where
  abbrev mutual
    pub Opens : ℕ → {predicate : ℕ} {arguments taken : List ℕ} → Tree rule_set heap predicate arguments taken → Type 0
    Opens k {predicate} {arguments} {taken} (Tree.node rule bound indices below e a forest t) =
        (lines : List ℕ) × ((l : ℕ) → l among lines → (1 ≤ l) × (l < k)) × Written rule_set domain words k rule (arguments ++ bound) lines
        × (fact_at words k ≡ fact domain predicate arguments (set_of taken)) × OpensAll lines forest

    pub OpensAll : List ℕ → {σ : List ℕ} {calls : List Call} {taken : List ℕ} → Forest rule_set heap σ calls taken → Type 0
    OpensAll lines Forest.none = lines ≡ []
    OpensAll lines (Forest.next here rest tree forest t) =
        (line : ℕ) × (others : List ℕ) × (lines ≡ line ∷ others) × Opens line tree × OpensAll others forest

-- What a certificate opens into: a finished tree by hand with this predicate, these values and exactly this subheap, which is line k
-- opened.
pub record Opened (rule_set : RuleSet) (heap : Heap) (domain words : List ℕ) (k p : ℕ) (vs : List ℕ) (part : ℕ) : Type 0 where
  pub taken : List ℕ
  pub tree : Tree rule_set heap p vs taken
  pub once : Distinct taken
  pub part_taken : part ≡ set_of taken
  pub opens : Opens rule_set heap domain words k tree
