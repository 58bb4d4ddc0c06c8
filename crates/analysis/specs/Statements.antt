-- What is proved of the analyser. Each statement is a type; a function of src/ has it as its contract. Assumes nothing: these are definitions.
use Rattle.std.specs.Prelude.{◌≡◌, ℕ, ◌+◌, Bool, true, false, ◌&&◌, ◌⊎◌, List, length, ◌==◌, nat_eq, nat_le, nat_lt}
use Rattle.program.specs.Basics.{all, any, limit}
use Rattle.program.specs.Syntax.{Expr, Test, Stmt, Program}
use Rattle.program.specs.Semantics.{State, value, failed, eval, eval_test, Outcome, finished, fault, out_of_rounds, run, run_program}
use Rattle.program.specs.Validity.{valid_expr, valid_test, valid_stmt, valid_program, loop_free}
use Rattle.interval.specs.Interval.{lies_in}
use Rattle.analysis.specs.Reach.{unreached, reached}
use Rattle.analysis.specs.AbstractState.{Env, Abstract, join, within}
use Rattle.analysis.specs.Evaluation.{eval_interval}
use Rattle.analysis.specs.Assume.{assume, test_faults}
use Rattle.analysis.specs.Iteration.{iterate}
use Rattle.analysis.specs.Analyser.{analyse}
use Rattle.analysis.specs.Thresholds.{thresholds}
use Rattle.analysis.specs.Whole.{round_limit, analyse_program}
use Rattle.analysis.specs.Concretisation.{describes, covers, has_alarm}
use Rattle.analysis.specs.Respond.{alarms_of}

-- an expression's value lies in its interval, and its fault is among those told
unfoldable pub EvalSound : Type 0
EvalSound =
    (ns : List ℕ) (s : State) (w : Env) (e : Expr) → describes ns s w ≡ true → valid_expr (length s.values) (length ns) e ≡ true →
    ((v : ℕ) → eval s e ≡ value v → any (lies_in v) (eval_interval ns w e).intervals ≡ true)
    × ((k : ℕ) → eval s e ≡ failed k → any (nat_eq k) (eval_interval ns w e).faults ≡ true)

-- what a test says is so, whether it holds or not
unfoldable pub AssumeSound : Type 0
AssumeSound =
    (ns : List ℕ) (s : State) (w : Env) (t : Test) → describes ns s w ≡ true → valid_test (length s.values) (length ns) t ≡ true →
    (eval_test s t ≡ value 1 → covers ns s (assume ns true t w) ≡ true) × (eval_test s t ≡ value 0 → covers ns s (assume ns false t w) ≡ true)

-- and a test's fault is among those told
unfoldable pub TestSound : Type 0
TestSound =
    AssumeSound
    × ((ns : List ℕ) (s : State) (w : Env) (t : Test) → describes ns s w ≡ true → valid_test (length s.values) (length ns) t ≡ true →
    (k : ℕ) → eval_test s t ≡ failed k → any (nat_eq k) (test_faults ns t w) ≡ true)

-- as many variables and arrays
unfoldable pub same_size : Abstract → Abstract → Bool
same_size unreached g = true
same_size (reached w) unreached = true
same_size (reached w) (reached v) = length w.values == length v.values && length w.arrays == length v.arrays

-- a join holds what either side holds, and what lies within holds no more
unfoldable pub JoinSound : Type 0
JoinSound =
    (ns : List ℕ) (s : State) (h g : Abstract) →
    (same_size h g ≡ true → covers ns s h ≡ true ⊎ (covers ns s g ≡ true) → covers ns s (join h g) ≡ true)
    × (within h g ≡ true → same_size h g ≡ true → covers ns s h ≡ true → covers ns s g ≡ true)

-- as many intervals as the program has variables and arrays, none empty, all below 2^32
unfoldable pub well_formed : Program → Abstract → Bool
well_formed p unreached = true
well_formed p (reached w) =
    (length w.values == p.vars) && (length w.arrays == length p.arrays && (all (λ s. nat_le s.lo s.hi && nat_lt s.hi limit) w.values && all (λ s. nat_le s.lo s.hi && nat_lt s.hi limit) w.arrays))

-- after the round limit one more round brings nothing new, whatever f is
unfoldable pub RoundsSuffice : Type 0
RoundsSuffice =
    (p : Program) (f : Abstract → Abstract) (h : Abstract) → ((g : Abstract) → well_formed p g ≡ true → well_formed p (f g) ≡ true) → well_formed p h ≡ true →
    within (f (iterate (thresholds p) 4 (round_limit p) f h)) (iterate (thresholds p) 4 (round_limit p) f h) ≡ true

-- the run used up its rounds
unfoldable pub ran_out : Outcome → Bool
ran_out (finished s) = false
ran_out (fault d k) = false
ran_out out_of_rounds = true

-- a run that had rounds enough goes the same with more
unfoldable pub MoreRoundsSame : Type 0
MoreRoundsSame =
    (n k : ℕ) (p : Program) (inputs : List ℕ) → ran_out (run_program n p inputs) ≡ false → run_program (k + n) p inputs ≡ run_program n p inputs

-- without loops no rounds are needed
unfoldable pub LoopFreeSame : Type 0
LoopFreeSame =
    (n : ℕ) (p : Program) (h : Abstract) → loop_free p.body ≡ true → analyse p.arrays (thresholds p) n p.body h ≡ analyse p.arrays (thresholds p) 0 p.body h

-- whatever comes in and however long a run goes on: its fault is an alarm, and its end lies in the end state
unfoldable pub NothingMissed : Program → Type 0
NothingMissed p =
    (n : ℕ) (inputs : List ℕ) →
    ((d k : ℕ) → run_program n p inputs ≡ fault d k → has_alarm (alarms_of p) d k ≡ true)
    × ((s : State) → run_program n p inputs ≡ finished s → covers p.arrays s (analyse_program p).out ≡ true)

-- nothing is missed in any valid program
unfoldable pub MissesNothing : Type 0
MissesNothing = (p : Program) → valid_program p ≡ true → NothingMissed p

-- the same of one statement, from any state that lies in what is known: a fault of its run is an alarm, and its end lies in what is known behind it
unfoldable pub AnalyseSound : Type 0
AnalyseSound =
    (p : Program) (d : Stmt) (n : ℕ) (s : State) (h : Abstract) → valid_stmt p.vars (length p.arrays) d ≡ true → well_formed p h ≡ true → covers p.arrays s h ≡ true →
    ((q k : ℕ) → run n d s ≡ fault q k → has_alarm (analyse p.arrays (thresholds p) (round_limit p) d h).alarms q k ≡ true)
    × ((t : State) → run n d s ≡ finished t → covers p.arrays t (analyse p.arrays (thresholds p) (round_limit p) d h).out ≡ true)
