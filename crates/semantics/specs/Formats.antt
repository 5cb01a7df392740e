-- The formats and the ladder (paper 01: the book, the snapshot, the question; refusals 1 to 9): what the bytes say, or the number of
-- the first fault met, front to back.
use mathlib.Core.{Bool.Bool, Bool.true, Bool.false, Bool.not, Bool.◌&&◌, List.List, List.[], List.◌∷◌, Path.◌≡◌}
use Rattle.std.specs.Prelude.{ℕ, zero, suc, ◌+◌, ◌-◌, ◌≤◌, ◌<◌}
use lib.{ListN.length, ListN.get_or, Dec.eqb, Dec.leb, Dec.ltb}
use Rattle.semantics.specs.RuleSet.{Term, var, fixed, Kind, equal, unequal, Pure, PointsTo, Call, Rule, RuleSet, arity, WellFormed}
use Rattle.semantics.specs.Heap.{Heap, WellFormedHeap}
use Rattle.semantics.specs.Refusals.{book_ends, book_count, book_name, book_longer, snapshot_ends, snapshot_count, snapshot_address, snapshot_longer, question_mismatch}
use Rattle.semantics.specs.Reader.{fault, Reader, ◌>>=◌, give, ensure, byte, times, counted, word, Result, accepted, and_then, all}

-- ---- values

-- The end mark: FFFFFFFF, which the current controllers write where a chain ends. Older ones write 0.
abbrev pub end_mark : ℕ
end_mark = 4294967295

-- How the four bytes of a field, of a query's value or of a constant are read as a value: the end mark as nil, all else as it is.
abbrev pub as_read : ℕ → ℕ
as_read v = elim (eqb v end_mark) [ true ↦ 0 | false ↦ v ]

abbrev pub value : ℕ → Reader ℕ
value short = do
  v ← word short
  give (as_read v)

-- ---- the rule set

-- A byte below n: one of n predicates, or one of n variables.
abbrev pub named : ℕ → Reader ℕ
named n = do
  b ← byte book_ends
  ensure (ltb b n) book_name b

-- What the byte b names as a term of a rule with n variables: nil (255), below 128 a variable, from 128 on a constant.
abbrev pub term_of : List ℕ → ℕ → ℕ → Reader Term
term_of constants n b =
    elim (eqb b 255) [
      | true ↦ give (fixed 0)
      | false ↦ elim (ltb b 128) [
        | true ↦ ensure (ltb b n) book_name (var b)
        | false ↦ ensure (ltb (b - 128) (length constants)) book_name (fixed (get_or constants (b - 128) 0))
      ]
    ]

abbrev pub term : List ℕ → ℕ → Reader Term
term constants n = do
  b ← byte book_ends
  term_of constants n b

abbrev pub kind_of : ℕ → Reader Kind
kind_of zero = give equal
kind_of (suc zero) = give unequal
kind_of (suc (suc b)) = λ bytes. fault book_name

abbrev pub kind : Reader Kind
kind = do
  b ← byte book_ends
  kind_of b

abbrev pub pure : List ℕ → ℕ → Reader Pure
pure constants n = do
  k ← kind
  l ← term constants n
  r ← term constants n
  give (record { kind = k; left = l; right = r })

-- Only a variable may stand for the address: what is nil or a constant elsewhere names nothing there.
abbrev pub atom : List ℕ → ℕ → Reader PointsTo
atom constants n = do
  a ← named n
  ts ← counted book_ends book_count 4 (term constants n)
  give (record { address = a; fields = ts })

abbrev pub call : (arities constants : List ℕ) → ℕ → Reader Call
call arities constants n = do
  p ← named (length arities)
  ts ← times (get_or arities p 0) (term constants n)
  give (record { predicate = p; arguments = ts })

abbrev pub body : (arities constants : List ℕ) → ℕ → ℕ → ℕ → Reader Rule
body arities constants h b n = do
  ps ← counted book_ends book_count 8 (pure constants n)
  cs ← counted book_ends book_count 4 (atom constants n)
  ds ← counted book_ends book_count 3 (call arities constants n)
  give (record { head = h; bound = b; pures = ps; points_to = cs; calls = ds })

-- Head and bound variables are at most 8 together.
abbrev pub rule : (arities constants : List ℕ) → Reader Rule
rule arities constants = do
  h ← named (length arities)
  b ← byte book_ends
  n ← ensure (leb (get_or arities h 0 + b) 8) book_count (get_or arities h 0 + b)
  body arities constants h b n

-- A predicate's number of arguments.
abbrev pub arguments : Reader ℕ
arguments = do
  b ← byte book_ends
  ensure (leb b 4) book_count b

-- There are 1 to 8 predicates.
abbrev pub predicates : Reader (List ℕ)
predicates = do
  b ← byte book_ends
  l ← ensure (leb 1 b) book_count b
  n ← ensure (leb l 8) book_count l
  times n arguments

-- There are at most 8 constants, each of four bytes.
abbrev pub constants : Reader (List ℕ)
constants = counted book_ends book_count 8 (value book_ends)

abbrev pub rule_set : Reader RuleSet
rule_set = do
  arities ← predicates
  listed ← constants
  rules ← counted book_ends book_count 16 (rule arities listed)
  give (record { arities = arities; constants = listed; rules = rules })

unfoldable pub read_rule_set : List ℕ → Result RuleSet
read_rule_set bytes = all book_longer (rule_set bytes)

-- ---- the snapshot

-- An address is above the one before, and not the end mark; before the first stands 0, so none is nil.
abbrev pub is_address : ℕ → ℕ → Bool
is_address low a = ltb low a && not (eqb a end_mark)

abbrev pub address : ℕ → Reader ℕ
address low = do
  a ← word snapshot_ends
  ensure (is_address low a) snapshot_address a

unfoldable pub records : ℕ → ℕ → Reader Heap
records zero low = give []
records (suc n) low = do
  a ← address low
  fs ← counted snapshot_ends snapshot_count 4 (value snapshot_ends)
  more ← records n a
  give (record { address = a; fields = fs } ∷ more)

abbrev pub snapshot : Reader Heap
snapshot = do
  b ← byte snapshot_ends
  n ← ensure (leb b 16) snapshot_count b
  records n 0

unfoldable pub read_snapshot : List ℕ → Result Heap
read_snapshot bytes = all snapshot_longer (snapshot bytes)

-- ---- the query (paper 01: the question), which has one number for every fault

pub record Query : Type 0 where
  pub predicate : ℕ
  pub values : List ℕ

abbrev pub query : List ℕ → Reader Query
query arities = do
  b ← byte question_mismatch
  p ← ensure (ltb b (length arities)) question_mismatch b
  c ← byte question_mismatch
  n ← ensure (eqb c (get_or arities p 0)) question_mismatch c
  vs ← times n (value question_mismatch)
  give (record { predicate = p; values = vs })

unfoldable pub read_query : List ℕ → List ℕ → Result Query
read_query arities bytes = all question_mismatch (query arities bytes)

-- ---- refusals 1 to 9

-- What was read, if nothing was refused.
pub record Input : Type 0 where
  pub rule_set : RuleSet
  pub heap : Heap
  pub predicate : ℕ
  pub values : List ℕ

-- The ladder: first the book, then the snapshot, then the question.
unfoldable pub ladder : List ℕ → List ℕ → List ℕ → Result Input
ladder book snapshot question =
    and_then (read_rule_set book) (λ r.
    and_then (read_snapshot snapshot) (λ h.
    and_then (read_query r.arities question) (λ q.
    accepted (record { rule_set = r; heap = h; predicate = q.predicate; values = q.values }))))

-- A rule set, a heap and values asked about, each as the readers guarantee it. The theorems rest on this.
pub record Valid (rule_set : RuleSet) (heap : Heap) (values : List ℕ) : Type 0 where
  pub rules_formed : WellFormed rule_set
  pub heap_formed : WellFormedHeap heap
  pub values_few : length values ≤ 4

-- What the ladder guarantees of what it accepts.
pub record WellFormedInput (i : Input) : Type 0 where
  pub valid : Valid i.rule_set i.heap i.values
  pub named : i.predicate < length i.rule_set.arities
  pub counted : length i.values ≡ arity i.rule_set i.predicate
