-- What is owed of a walk over bytes that collects thresholds in a table. Assumes nothing: these are definitions.
use Rattle.std.specs.Prelude.{◌≡◌, ℕ, ◌+◌, ◌-◌, ◌<◌, ◌≤◌, true, List, [], ◌∷◌, ◌++◌, length, take, drop, slice_index, nat_lt}
use Rattle.std.proofs.lemmas.List.Edits.{sets}
use Rattle.std.specs.List.{AllByRecursion}
use Rattle.std.specs.List.Sorted.{IsNonDecreasing, IsPermutation}
use Rattle.program.specs.Basics.{filter, flat_map, limit}
use Rattle.program.specs.Syntax.{Stmt}
use Rattle.program.specs.Encoding.{encode_stmt}
use Rattle.program.specs.Validity.{valid_stmt}
use Rattle.analysis.specs.Thresholds.{stmt_thresholds}
use Rattle.encoding.specs.Standing.{Stands}
use Rattle.thresholds.specs.declared.table.Collector.{Collector}

-- those that are numbers
abbrev pub small : List ℕ → List ℕ
small ms = filter (λ m. nat_lt m limit) ms

-- it can be told from its eight bytes
abbrev pub Low : ℕ → Type 0
Low m = m < 18446744073709551616

-- bytes are left at the position, and the first of them is tag
pub record Begins (text : List ℕ) (pos left tag : ℕ) : Type 0 where
  pub some : 0 < left
  pub inside : pos < length text
  pub is : tag ≡ slice_index text pos

-- the collector goes on over the same text and in the same table
pub record SameLoans (c c₁ : Collector) : Type 0 where
  pub text : c₁.text ≡ c.text
  pub table : c₁.slots.ghost_name ≡ c.slots.ghost_name

-- thresholds that can be told, and room for them behind those that are there
pub record Room (ms : List ℕ) (c : Collector) : Type 0 where
  pub low : AllByRecursion Low ms
  pub fits : c.count + length (small ms) ≤ length c.slots.now

-- the bytes stand at the position and are no more than left, and there is room for their thresholds
pub record Ready (c : Collector) (pos left : ℕ) (bs ms : List ℕ) : Type 0 where
  pub stands : Stands c.text.now pos bs
  pub enough : length bs ≤ left
  pub room : Room ms c

-- the thresholds stand in the table from count on, and the count has gone on
pub record Written (ms : List ℕ) (c c₁ : Collector) : Type 0 where
  pub writes : c₁.slots.now ≡ sets c.slots.now c.count (small ms)
  pub counts : c₁.count ≡ c.count + length (small ms)

-- they are written where there is room for them
abbrev pub Writes : List ℕ → Collector → Collector → Type 0
Writes ms c c₁ = c.count + length (small ms) ≤ length c.slots.now → Written ms c c₁

-- and the walk has come to stop
pub record Collects (ms : List ℕ) (stop : ℕ) (c c₁ : Collector) (end : ℕ) : Type 0 where
  pub written : Written ms c c₁
  pub stops : end ≡ stop

-- a walk from pos on over bytes with these thresholds
abbrev pub Walk : Collector → ℕ → ℕ → Collector → ℕ → List ℕ → List ℕ → Type 0
Walk c pos left c₁ end bs ms = Ready c pos left bs ms → Collects ms (pos + length bs) c c₁ end

-- the thresholds of the arrays' lengths
abbrev pub length_thresholds : List ℕ → List ℕ
length_thresholds ns = flat_map (λ n. (n - 1) ∷ n ∷ []) ns

-- those of a statement and of the arrays' lengths that are numbers
abbrev pub all_thresholds : Stmt → List ℕ → List ℕ
all_thresholds d ns = small (stmt_thresholds d ++ length_thresholds ns)

-- a valid statement stands at the position, and there is room for all thresholds
pub record Collectable (text : List ℕ) (pos : ℕ) (ns table : List ℕ) (d : Stmt) : Type 0 where
  pub vars : ℕ
  pub arrays : ℕ
  pub valid : valid_stmt vars arrays d ≡ true
  pub stands : Stands text pos (encode_stmt d)
  pub fits : length (all_thresholds d ns) ≤ length table

-- the thresholds stand at the front of the table, r of them, and the rest is as it was
pub record Gathered (ms table table₁ : List ℕ) (r : ℕ) : Type 0 where
  pub counts : r ≡ length ms
  pub front : take r table₁ ≡ ms
  pub rest : drop r table₁ ≡ drop r table

-- and ascend
pub record Sorted (ms table table₁ : List ℕ) (r : ℕ) : Type 0 where
  pub counts : r ≡ length ms
  pub shuffled : IsPermutation ms (take r table₁)
  pub rising : IsNonDecreasing (take r table₁)
  pub rest : drop r table₁ ≡ drop r table
