-- Nothing is missed: every run of a valid program ends in its end state or with a fault that is an alarm; and the end state is well formed.
-- Rests on the analyser over a lawful domain, and on intervals being one.
use Rattle.std.proofs.Common.{◌≡◌, ℕ, zero, suc, ◌+◌, ◌*◌, ◌<◌, Bool, true, ◌&&◌, ltb, leb, List, [], ◌∷◌, length, replicate, refl, subst, arith}
use lib.ListN.{length-replicate}
use Rattle.std.proofs.lemmas.Bool.Decides.{nat_tests}
use Rattle.std.proofs.lemmas.Bool.{and_parts}
use Rattle.program.specs.Basics.{all, map, limit}
use Rattle.program.specs.Syntax.{Stmt, skip, assign, store, input, check, seq, branch, loop, Program}
use Rattle.program.specs.Semantics.{Outcome, initial, run_program}
use Rattle.program.specs.Encoding.{encode_program}
use Rattle.program.specs.Validity.{valid_condition, valid_stmt, nesting, loop_nesting, stmt_numbers, consecutive, valid_program}
use Rattle.interval.specs.Interval.{interval}
use Rattle.analysis.specs.Reach.{Alarm}
use Rattle.analysis.specs.Analyser.{analyse}
use Rattle.analysis.specs.Thresholds.{thresholds}
use Rattle.analysis.specs.Whole.{round_limit, initial_abstract, analyse_program}
use Rattle.analysis.specs.Concretisation.{has_alarm}
use Rattle.analysis.specs.Respond.{insert_alarm, sort_alarms}
use Rattle.analysis.specs.Lawful.{RunTold, Each}
use Rattle.analysis.specs.Statements.{NothingMissed, MissesNothing, AnalyseSound}
use Rattle.analysis.proofs.Relations.{All, Lie, ArraysLie, Lies, Describes, Proper, Well, covers_from_test, covers_to_test, well_from_test}
use Rattle.analysis.proofs.Arithmetic.{zero_proper}
use Rattle.analysis.proofs.Rounds.{enough}
use Rattle.analysis.proofs.Analyser.{Simple}
use Rattle.analysis.proofs.Intervals.{analyse_told, analyse_well}

-- in a valid statement every input's range lies below 2^32
valid_each : (v r : ℕ) (d : Stmt) → valid_stmt v r d ≡ true → Each Simple d
unfolding valid_stmt
valid_each v r skip e = tt
valid_each v r (assign p x a) e = tt
valid_each v r (store p s a b) e = tt
valid_each v r (input p x a b) e = let q = (and_parts (ltb x v) (leb a b && ltb b limit) e).1 in grind (arith, nat_tests)
valid_each v r (check p t) e = tt
valid_each v r (seq a b) e = let q = and_parts (valid_stmt v r a) (valid_stmt v r b) e in (valid_each v r a q.0, valid_each v r b q.1)
valid_each v r (branch p t a b) e =
    let q = and_parts (valid_stmt v r a) (valid_stmt v r b) (and_parts (valid_condition v r t) (valid_stmt v r a && valid_stmt v r b) e).1 in
    (valid_each v r a q.0, valid_each v r b q.1)
valid_each v r (loop p t a) e = valid_each v r a (and_parts (valid_condition v r t) (valid_stmt v r a) e).1

-- in a valid program the body is valid
valid_body : (p : Program) → valid_program p ≡ true → valid_stmt p.vars (length p.arrays) p.body ≡ true
valid_body p e =
    let v : Bool = valid_stmt p.vars (length p.arrays) p.body in
    let c : Bool = consecutive 1 (stmt_numbers p.body) in
    let x : Bool = leb p.vars 64 && (leb (length p.arrays) 16 && all (λ n. leb 1 n && leb n 65536) p.arrays) in
    let y : Bool = leb (nesting p.body) 32 && (leb (loop_nesting p.body) 3 && leb (length (encode_program p)) 32768) in
    (and_parts v c (and_parts (v && c) y (and_parts x ((v && c) && y) e).1).0).0

-- the round limit suffices
limit_enough : (p : Program) → 4 + (p.vars + length p.arrays) * (2 * suc (length (thresholds p))) < round_limit p
limit_enough p = enough (p.vars + length p.arrays) (length (thresholds p))

zeros_lie : (n : ℕ) → Lie (replicate n 0) (replicate n (interval 0 0))
zeros_lie zero = tt
zeros_lie (suc n) = ((omega arith, omega arith), zeros_lie n)

all_replicate : {A : Type 0} (P : A → Type 0) (n : ℕ) (a : A) → P a → All P (replicate n a)
all_replicate P zero a h = tt
all_replicate P (suc n) a h = (h, all_replicate P n a h)

zero_arrays_lie : (ns : List ℕ) → ArraysLie (map (λ n. replicate n 0) ns) ns (map (λ n. interval 0 0) ns)
zero_arrays_lie [] = tt
zero_arrays_lie (n ∷ ns) = (length-replicate n 0, all_replicate (λ v. Lies v (interval 0 0)) n 0 (omega arith, omega arith), zero_arrays_lie ns)

zero_arrays_proper : (ns : List ℕ) → (length (map (λ (n : ℕ). interval 0 0) ns) ≡ length ns) × All Proper (map (λ (n : ℕ). interval 0 0) ns)
zero_arrays_proper [] = (refl, tt)
zero_arrays_proper (n ∷ ns) = let h = zero_arrays_proper ns in (omega arith, (zero_proper, h.1))

-- what is known at first is well formed
initial_well : (p : Program) → Well p.vars (length p.arrays) (initial_abstract p)
initial_well p =
    let h = zero_arrays_proper p.arrays in
    (length-replicate p.vars (interval 0 0), h.0, all_replicate Proper p.vars (interval 0 0) zero_proper, h.1)

-- every run of a valid program is told
program_told : (p : Program) → valid_program p ≡ true → (n : ℕ) (inputs : List ℕ) → RunTold (Describes p.arrays) (analyse_program p) (run_program n p inputs)
program_told p e n inputs =
    analyse_told p.vars (length p.arrays) p.arrays (thresholds p) (round_limit p) (limit_enough p) p.body (valid_each p.vars (length p.arrays) p.body (valid_body p e))
    n (initial p inputs) (initial_abstract p) (initial_well p) (zeros_lie p.vars, zero_arrays_lie p.arrays)

-- the end state of a valid program is well formed: all its bounds lie below 2^32
pub proper_out : (p : Program) → valid_program p ≡ true → Well p.vars (length p.arrays) (analyse_program p).out
proper_out p e =
    analyse_well p.vars (length p.arrays) p.arrays (thresholds p) (round_limit p) (limit_enough p) p.body (valid_each p.vars (length p.arrays) p.body (valid_body p e))
    (initial_abstract p) (initial_well p)

-- an alarm that is put into its place is there, and so are the others
insert_has : (a : Alarm) (as₁ : List Alarm) (d k : ℕ) → has_alarm (a ∷ as₁) d k ≡ true → has_alarm (insert_alarm a as₁) d k ≡ true
unfolding insert_alarm
insert_has a [] d k e = e
insert_has a (b ∷ as₁) d k e = let f = insert_has a as₁ d k in grind (arith, nat_tests)

-- sorting keeps every alarm
pub sort_has : (as₁ : List Alarm) (d k : ℕ) → has_alarm as₁ d k ≡ true → has_alarm (sort_alarms as₁) d k ≡ true
unfolding sort_alarms
sort_has [] d k e = e
sort_has (a ∷ as₁) d k e = let f = sort_has as₁ d k in insert_has a (sort_alarms as₁) d k (grind (arith, nat_tests))

pub misses_nothing : MissesNothing
unfolding MissesNothing NothingMissed
misses_nothing p e n inputs =
    let h = program_told p e n inputs in
    let T : Outcome → Type 0 = RunTold (Describes p.arrays) (analyse_program p) in
    (λ d k q. sort_has (analyse_program p).alarms d k (subst T q h), λ s q. covers_to_test p.arrays s (analyse_program p).out (subst T q h))

pub analyse_sound : AnalyseSound
unfolding AnalyseSound
analyse_sound p d n s h v w c =
    let a = analyse p.arrays (thresholds p) (round_limit p) d h in
    let t = analyse_told p.vars (length p.arrays) p.arrays (thresholds p) (round_limit p) (limit_enough p) d (valid_each p.vars (length p.arrays) d v) n s h
    (well_from_test p h w) (covers_from_test p.arrays s h c) in
    let T : Outcome → Type 0 = RunTold (Describes p.arrays) a in
    (λ q k e. subst T e t, λ u e. covers_to_test p.arrays u a.out (subst T e t))
